-- A declared size is the only one, stays the same when more bytes follow, and is the size of each frame that begins so.
use Rattle.std.proofs.Common.{◌≡◌, ℕ, List, [], ◌++◌, length, sym, ap, ◌∙◌, append_assoc, length-append, arith}
use Rattle.std.proofs.lemmas.List.{nil_from_length}
use Rattle.coap_wire.specs.Prelude.{Message, Spells, IsDeclaredSize, IsFrame, Size}
use Rattle.coap_wire.proofs.HeadLaws.{size_declared, head_frame}

-- Bytes declare at most one size.
pub size_only : (s : List ℕ) (m n : ℕ) → IsDeclaredSize s m → IsDeclaredSize s n → m ≡ n
size_only s m n left right = let same : Size m ≡ Size n = sym (size_declared s m left) ∙ size_declared s n right in cc

-- A declared size stays the same when more bytes follow.
pub size_more : (s t : List ℕ) (n : ℕ) → IsDeclaredSize s n → IsDeclaredSize (s ++ t) n
size_more s t n size = (size.0, size.1 ++ t, ap (λ (l : List ℕ). l ++ t) size.2 ∙ append_assoc size.0 size.1 t, size.3)

-- The encoding of a message is a frame.
pub spelling_is_frame : (s : List ℕ) (m : Message) → Spells s m → IsFrame s
spelling_is_frame s m spelled = head_frame s m.code m.token spelled.body spelled.head

-- No frame begins with another frame.
pub frames_prefix_free : (s x : List ℕ) → IsFrame s → IsFrame (s ++ x) → x ≡ []
frames_prefix_free s x short long =
    let same : length s ≡ length (s ++ x) =
    size_only (s ++ x) (length s) (length (s ++ x)) (size_more s x (length s) short) long in
    nil_from_length x (omega (arith, length-append s x))

-- No encoding begins with another encoding.
pub no_proper_prefix : (s x : List ℕ) (m n : Message) → Spells s m → Spells (s ++ x) n → x ≡ []
no_proper_prefix s x m n short long =
    frames_prefix_free s x (spelling_is_frame s m short) (spelling_is_frame (s ++ x) n long)
