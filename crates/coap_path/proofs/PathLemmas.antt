-- The equality of paths, and their bytes in a key.
use Rattle.std.proofs.Common.{◌≡◌, ℕ, zero, suc, ◌+◌, ◌<◌, ◌≤◌, Bool, true, ◌||◌, List, []}
use Rattle.std.proofs.Common.{◌∷◌, ◌++◌, length, get_or, take, drop, refl, sym, ap, ◌∙◌, arith}
use Rattle.std.proofs.Common.{length-append}
use Rattle.std.proofs.Math.Seq.{take-append_seam, drop-append_seam}
use Rattle.std.proofs.lemmas.Bool.{and_parts, leb-true}
use Rattle.std.proofs.lemmas.Bool.Decides.{same_from_decides}
use Rattle.std.proofs.lemmas.List.{append_cancel_left, length-take, take-append-drop, at_drop_more}
use Rattle.std.proofs.lemmas.List.{length-map, nil_from_length}
use Rattle.coap_path.specs.Prelude.{list_any, Bor, Path, same_path, is_path, written_length, IsWritten, written}
use Rattle.coap_path.specs.Prelude.{segments_by, segments_at, segment_list}
use lib.Pointwise.{bytes_decides, pointwise_decides}
use Rattle.coap_path.specs.contracts.path.PathKeyPartialEq.TheImpl as key_eq
use Rattle.std.proofs.lemmas.Grind.{common_steps}

-- ---- equal paths

same_path_decides : (p q : Path) → (same_path p q ≡ true → p ≡ q) × (p ≡ q → same_path p q ≡ true)
same_path_decides = pointwise_decides bytes_decides

pub same_path_sound : (p q : Path) → same_path p q ≡ true → p ≡ q
same_path_sound p q same = (same_path_decides p q).0 same

-- ---- the bytes of a path

written_whole : (p : Path) (turns : ℕ) → length (written p) ≤ turns → segments_by turns (written p) ≡ p
unfolding written segments_by
written_whole [] turns enough = refl
written_whole (s ∷ ss) zero enough = absurd (omega arith)
written_whole (s ∷ ss) (suc turns) enough =
    let total = length-append s (written ss) in
    rw (take-append_seam, drop-append_seam, written_whole ss turns (omega arith))

pub segments_written : (p : Path) → segments_at (written p) ≡ p
unfolding segments_at
segments_written p = written_whole p (length (written p)) (omega arith)

pub written_once : (p q : Path) → written p ≡ written q → p ≡ q
written_once p q same = sym (segments_written p) ∙ ap segments_at same ∙ segments_written q

-- ---- the equality of keys

-- Keys are equal if and only if their paths are.
pub keys_equal : (p q : Path) → ((key_eq.ghosts).eq p q ≡ true → p ≡ q) × (p ≡ q → (key_eq.ghosts).eq p q ≡ true)
keys_equal p q =
    let bytes = bytes_decides (written p) (written q) in
    ((λ same. written_once p q (bytes.0 same)), (λ same. bytes.1 (ap written same)))

pub key_equality : (p q : Path) → (key_eq.ghosts).eq p q ≡ same_path p q
key_equality p q = same_from_decides _ _ (keys_equal p q) (same_path_decides p q)

-- ---- the size of a path

pub path_fits : (p : Path) → is_path p ≡ true → written_length p ≤ 255
unfolding is_path
path_fits p is = leb-true (written_length p) 255 (and_parts _ _ (and_parts _ _ (and_parts _ _ is).0).0).1

pub few_segments : (p : Path) → is_path p ≡ true → length p ≤ 16
unfolding is_path
few_segments p is = leb-true (length p) 16 (and_parts _ _ (and_parts _ _ (and_parts _ _ is).0).0).0

-- ---- from segment to segment

pub any_segment : (test : List ℕ → Bool) (segments : List (Bor (List ℕ)))
    → list_any test (segment_list segments) ≡ list_any (λ s. test s.now) segments
any_segment test [] = refl
any_segment test (s ∷ ss) = ap (λ others. test s.now || others) (any_segment test ss)

pub length_written : (p : Path) → length (written p) ≡ written_length p
unfolding written
length_written [] = refl
length_written (s ∷ ss) =
    let others = length_written ss in
    omega (arith, length-append s (written ss))

-- The bytes of a segment and of those after it.
pub bytes_left : (segments : List (Bor (List ℕ))) (i : ℕ) (d : Bor (List ℕ)) → i < length segments
    → written (segment_list (drop i segments))
    ≡ length (get_or segments i d).now ∷ ((get_or segments i d).now ++ written (segment_list (drop (i + 1) segments)))
unfolding written
bytes_left segments i d within = at_drop_more (λ left. written (segment_list left)) segments i d within

-- ---- the key of a path

pub count_segments : (segments : List (Bor (List ℕ))) → length (segment_list segments) ≡ length segments
count_segments segments = length-map segments (λ s. s.now)

-- ---- the segments of a key

pub no_segment_left : (bytes : List ℕ) → length bytes ≡ 0 → segments_at bytes ≡ []
unfolding segments_at segments_by
no_segment_left bytes none = ap segments_at (nil_from_length bytes none)

-- Bytes that begin with a length of `n` have a segment of `n` bytes, and others after it.
pub first_segment : (n : ℕ) (rest : List ℕ) → IsWritten (n ∷ rest)
    → (segments_at (n ∷ rest) ≡ take n rest ∷ segments_at (drop n rest)) × (n ≤ length rest) × IsWritten (drop n rest)
unfolding segments_at segments_by written
first_segment n rest is =
    let others = segments_by (length rest) (drop n rest) in
    let counted : length (take n rest) ≡ n = cc in
    let both : take n rest ++ written others ≡ rest = cc in
    let split : written others ≡ drop n rest =
    append_cancel_left (take n rest) _ _ (both ∙ sym (take-append-drop n rest)) in
    let back : segments_at (drop n rest) ≡ others = ap segments_at (sym split) ∙ segments_written others in
    (ap (λ ss. take n rest ∷ ss) (sym back), omega (arith, length-take n rest), ap written back ∙ split)

pub ruleset bytes_of_steps = (bytes_left, length_written, common_steps)
