-- The segments of a path as text.
use Rattle.std.proofs.Common.{◌≡◌, ℕ, suc, ◌+◌, ◌-◌, ◌/◌, ◌%◌, ◌<◌, ◌≤◌, List, [], ◌∷◌, ◌++◌, length}
use Rattle.std.proofs.Common.{drop, Some, None, refl, sym, ap, ◌∙◌, arith}
use Rattle.std.specs.Prelude.{◌≢◌, ◌==◌, if◌then◌else◌}
use Rattle.std.specs.List.{join_with_byte}
use Rattle.std.proofs.lemmas.List.{append-nil}
use Rattle.std.proofs.lemmas.List.Splits.{join_with_byte-slice_split}
use Rattle.std.proofs.lemmas.Bool.Decides.{nat_tests}
use Rattle.coap_path.specs.Paths.{Path, is_path}
use Rattle.coap_text.specs.Words.{parts}
use Rattle.c_api.specs.PathTexts.{text_segments, text_path, slashed, HasNoText, set_bits}

pub segments_some : (text : List ℕ) → (length text ≡ 0 → ⊥) → text_segments text ≡ parts 47 text
unfolding text_segments
segments_some text some = grind arith

-- A text with more than 16 segments names no path.
pub too_many : (text : List ℕ) → 16 < length (text_segments text) → None ≡ text_path text
unfolding is_path
too_many text many = grind (arith, nat_tests)

-- ---- the text of a path

joined : (path : Path) → drop 1 (slashed path) ≡ join_with_byte 47 path
joined [] = refl
joined (s ∷ []) = append-nil s
joined (s ∷ t ∷ ss) = ap (λ (text : List ℕ). s ++ (47 ∷ text)) (joined (t ∷ ss))

segments_joined : (text : List ℕ) → join_with_byte 47 (text_segments text) ≡ text
unfolding text_segments
segments_joined [] = refl
segments_joined (b ∷ bs) = join_with_byte-slice_split 47 (b ∷ bs)

named : (text : List ℕ) (path : Path) → text_path text ≡ Some path → text_segments text ≡ path
named text path is = grind arith

-- If the segments with slashes between them do not name a path, no text does.
pub no_text : (path : Path) → text_path (drop 1 (slashed path)) ≢ Some path → HasNoText path
no_text path none text is =
    let same : text ≡ drop 1 (slashed path) =
    sym (segments_joined text) ∙ ap (join_with_byte 47) (named text path is) ∙ sym (joined path) in
    none (ap text_path (sym same) ∙ is)

-- The codes whose bits are left, one by one.
one : (count n bits : ℕ)
    → set_bits (suc count) bits n ≡ (if bits % 2 == 1 then n ∷ [] else []) ++ set_bits count (bits / 2) (n + 1)
one count n bits = grind arith

pub bits_more : (n bits : ℕ) → n < 32
    → set_bits (32 - n) bits n ≡ (if bits % 2 == 1 then n ∷ [] else []) ++ set_bits (32 - (n + 1)) (bits / 2) (n + 1)
bits_more n bits within =
    let more : 32 - n ≡ suc (32 - (n + 1)) = omega (arith, within) in
    ap (λ (k : ℕ). set_bits k bits n) more ∙ one (32 - (n + 1)) n bits

pub bits_none : (n bits : ℕ) → 32 ≤ n → set_bits (32 - n) bits n ≡ []
bits_none n bits past = let none : 32 - n ≡ 0 = omega (arith, past) in ap (λ (k : ℕ). set_bits k bits n) none
