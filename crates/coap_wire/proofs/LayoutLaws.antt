-- The layout of a frame: it stays the same when more bytes follow, and it has the parts that decoding of
-- the head returns.
use Rattle.std.proofs.Common.{◌≡◌, ◌≢◌, ◌+◌, ◌<◌, ◌≤◌, ℕ, List, ◌++◌, length, take, drop, get_or, Ok, Err, ◌∙◌, arith}
use Rattle.std.proofs.Common.{sym}
use Rattle.std.proofs.lemmas.Bool.Decides.{nat_tests}
use Rattle.std.proofs.lemmas.List.{length-take-le, take-append-drop}
use Rattle.coap_wire.specs.Prelude.{AreBytes, greatest_token, head_at, TokenLength, NotOneFrame, declared_of}
use Rattle.coap_wire.specs.Prelude.{declared_in, outline_of, IsLaidOut, FrameLayout}
use Rattle.coap_wire.specs.declared.layout.Outline.TheVariants.{Unknown, BadToken, Known}
use Rattle.coap_wire.specs.declared.declaration.Declared.TheVariants as declared
use Rattle.coap_wire.proofs.HeadLaws.{head_facts, known_more, size_bytes_more}
pub use Rattle.coap_wire.proofs.HeadLaws.{parts_of}

-- The size in the outline is the declared one.
pub outline_declared : (s : List ℕ) → declared_in (outline_of s) ≡ declared_of s
outline_declared s = grind (arith, head_facts s)

-- A known outline stays the same when more bytes follow.
pub outline_more : (s t : List ℕ) (n : ℕ) (l : FrameLayout) → outline_of s ≡ Known n l → outline_of (s ++ t) ≡ Known n l
outline_more s t n l e = (known_more s t (λ u. cc (outline_declared s))).1 ∙ e

-- The frame at the front of a stream has the layout that the stream begins with.
pub outline_front : (s : List ℕ) (n : ℕ) (l : FrameLayout) → outline_of s ≡ Known n l
    → n ≤ length s → IsLaidOut (take n s) l
outline_front s n l e long =
    let f = take n s in
    let size = length-take-le n s long in
    let same = take-append-drop n s in
    let known : declared_of f ≡ declared.Unknown → ⊥ =
    λ u. grind (arith, head_facts s, head_facts f, size_bytes_more f (drop n s)) in
    rw size (sym (known_more f (drop n s) known).1 ∙ rw same e)

-- The layout of a frame is within the frame, and decoding the head returns the parts at these positions.
pub record HasParts (f : List ℕ) (l : FrameLayout) : Type 0 where
  pub code_within : l.code_at < length f
  pub token_within : l.token_at + l.token_length ≤ length f
  pub short : l.token_length ≤ greatest_token
  pub head : head_at f ≡ Ok (parts_of (get_or f l.code_at 0) l.token_length (drop l.token_at f))

-- A frame has the parts of its layout.
pub laid_out_parts : (f : List ℕ) (l : FrameLayout) → AreBytes f → IsLaidOut f l → HasParts f l
laid_out_parts f l fits e = record {
  code_within = grind (arith, head_facts f);
  token_within = grind (arith, head_facts f);
  short = grind (arith, head_facts f);
  head = grind (arith, nat_tests, head_facts f);
}

-- If a byte of the lengths is missing, the bytes are no frame.
pub head_unknown : (s : List ℕ) → outline_of s ≡ Unknown → head_at s ≡ Err NotOneFrame
head_unknown s e = grind (arith, head_facts s)

-- An invalid token length is the error of the head.
pub head_bad_token : (s : List ℕ) → outline_of s ≡ BadToken → head_at s ≡ Err TokenLength
head_bad_token s e = grind (arith, head_facts s)

-- If the size differs from the number of bytes, the bytes are no frame.
pub head_other_size : (s : List ℕ) (n : ℕ) (l : FrameLayout) → outline_of s ≡ Known n l → n ≢ length s
    → head_at s ≡ Err NotOneFrame
head_other_size s n l e other = grind (arith, nat_tests, head_facts s)
