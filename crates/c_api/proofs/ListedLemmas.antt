-- The segments of a list, one by one.
use Rattle.std.proofs.Common.{◌≡◌, ℕ, zero, suc, ◌<◌, ◌≤◌, List, [], ◌∷◌, ◌++◌, length, take, drop, Option, Some, None}
use Rattle.std.proofs.Common.{refl, sym, ◌∙◌, append_assoc, length-append, length-drop, arith}
use Rattle.std.specs.Prelude.{nat_le, option_map, option_and_then, if◌then◌else◌}
use Rattle.std.proofs.lemmas.Bool.Decides.{nat_tests}
use Rattle.std.proofs.lemmas.List.{append-nil, length-map}
use Rattle.coap_path.specs.Prelude.{segment_list, Bor, Path}
use Rattle.coap_path.proofs.PathLemmas.{few_segments}
use Rattle.c_api.specs.PathTexts.{path_with, listed_by, listed_segments, listed_path}

-- The segments of the rest of a list, after those before it.
abbrev pub after_front : Path → Option Path → Option Path
after_front front rest = option_map (λ ss. front ++ ss) rest

-- A segment of the first `n` bytes, followed by the other segments. `None` if there are fewer bytes.
abbrev pub after_first : ℕ → List ℕ → Option Path → Option Path
after_first n bytes others = if nat_le n (length bytes) then option_map (λ ss. take n bytes ∷ ss) others else None

-- Any two numbers of turns that are at least that of the bytes give the same segments.
enough : (turns more : ℕ) (bytes : List ℕ) → length bytes ≤ turns → length bytes ≤ more
    → listed_by turns bytes ≡ listed_by more bytes
unfolding listed_by
enough turns more [] fits also = refl
enough zero more (n ∷ rest) fits also = absurd (omega arith)
enough (suc turns) zero (n ∷ rest) fits also = absurd (omega arith)
enough (suc turns) (suc more) (n ∷ rest) fits also =
    rw (enough turns more (drop n rest) (omega (arith, length-drop n rest)) (omega (arith, length-drop n rest)))

first_listed : (n : ℕ) (rest : List ℕ) → listed_segments (n ∷ rest) ≡ after_first n rest (listed_segments (drop n rest))
unfolding listed_segments listed_by
first_listed n rest =
    rw (enough (length rest) (length (drop n rest)) (drop n rest) (omega (arith, length-drop n rest)) (omega arith))

first_fits : (n : ℕ) (rest : List ℕ) → n ≤ length rest
    → listed_segments (n ∷ rest) ≡ option_map (λ ss. take n rest ∷ ss) (listed_segments (drop n rest))
first_fits n rest within = first_listed n rest ∙ grind (arith, nat_tests)

-- A whole segment comes after those so far.
one_more : (front : Path) (segment : List ℕ) (others : Option Path)
    → after_front (front ++ segment ∷ []) others ≡ after_front front (option_map (λ ss. segment ∷ ss) others)
one_more front segment None = refl
one_more front segment (Some ss) = rw (append_assoc front (segment ∷ []) ss)

one_more_step : (front : Path) (n : ℕ) (rest list : List ℕ) → n ≤ length rest
    → after_front front (listed_segments (n ∷ rest)) ≡ listed_segments list
    → after_front (front ++ take n rest ∷ []) (listed_segments (drop n rest)) ≡ listed_segments list
one_more_step front n rest list within so_far =
    one_more front (take n rest) (listed_segments (drop n rest)) ∙ rw (first_fits n rest within) at so_far

segments_append : (so_far : List (Bor (List ℕ))) (segment : Bor (List ℕ))
    → segment_list (so_far ++ segment ∷ []) ≡ segment_list so_far ++ segment.now ∷ []
segments_append [] segment = refl
segments_append (s ∷ ss) segment = rw (segments_append ss segment)

pub goes_on : (so_far : List (Bor (List ℕ))) (segment : Bor (List ℕ)) (n size : ℕ) (rest later left list : List ℕ)
    → left ≡ size ∷ rest → n ≡ size → n ≤ length rest → segment.now ≡ take n rest → later ≡ drop n rest
    → after_front (segment_list so_far) (listed_segments left) ≡ listed_segments list
    → after_front (segment_list (so_far ++ segment ∷ [])) (listed_segments later) ≡ listed_segments list
goes_on so_far segment n size rest later left list splits is within whole after before =
    rw (segments_append so_far segment, whole, after)
    (one_more_step (segment_list so_far) n rest list within (rw (splits, ← is) at before))

-- No segment is left.
pub at_end : (so_far : Path) (left list : List ℕ) → length left ≡ 0
    → after_front so_far (listed_segments left) ≡ listed_segments list → listed_segments list ≡ Some so_far
unfolding listed_segments listed_by
at_end so_far [] list none before = sym before ∙ rw (append-nil so_far)
at_end so_far (n ∷ rest) list none before = absurd (omega arith)

-- A truncated segment is in no path.
pub truncated : (front : Path) (n size : ℕ) (rest left list : List ℕ) → left ≡ size ∷ rest → n ≡ size → length rest < n
    → after_front front (listed_segments left) ≡ listed_segments list → None ≡ listed_path list
truncated front n size rest left list splits is short before =
    let first : after_first n rest (listed_segments (drop n rest)) ≡ None = grind (arith, nat_tests) in
    rw (← before, splits, ← is, first_listed n rest, first)

-- A path has no more than 16 segments.
long : (p : Path) → 16 < length p → None ≡ path_with p
long p many = grind (arith, few_segments p)

more_than : (front : Path) (segment : List ℕ) (others : Option Path) → length front ≡ 16
    → None ≡ option_and_then path_with (after_front front (option_map (λ ss. segment ∷ ss) others))
more_than front segment None full = refl
more_than front segment (Some ss) full =
    long (front ++ segment ∷ ss) (omega (arith, length-append front (segment ∷ ss)))

pub too_many_listed : (so_far : List (Bor (List ℕ))) (n size : ℕ) (rest left list : List ℕ) → left ≡ size ∷ rest
    → n ≡ size → n ≤ length rest → length so_far ≡ 16
    → after_front (segment_list so_far) (listed_segments left) ≡ listed_segments list → None ≡ listed_path list
too_many_listed so_far n size rest left list splits is within full before =
    rw (← before, splits, ← is, first_fits n rest within) (more_than (segment_list so_far) (take n rest)
    (listed_segments (drop n rest)) (length-map so_far (λ s. s.now) ∙ full))
