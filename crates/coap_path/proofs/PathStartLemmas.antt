-- The first segments of a path decide which entry it belongs to, and its kind.
use Rattle.std.proofs.Common.{◌≡◌, ℕ, zero, suc, ◌≤◌, List, [], ◌∷◌, ◌++◌, length, take, refl, arith}
use Rattle.std.proofs.Math.Seq.{take-append_seam}
use Rattle.coap_path.proofs.PathLemmas.{few_segments, count_segments}
use Rattle.coap_path.specs.Prelude.{Bor, Path, segment_list, AllByRecursion, kind_of_path, ApplicationEntryValue}
use Rattle.coap_path.specs.Prelude.{IsEntry, begins_with}
use Rattle.coap_path.specs.Prelude.{entry_for}
use Rattle.std.proofs.lemmas.Grind.{common_steps}

pub kind_of_start : (p : Path) → kind_of_path (take 16 p) ≡ kind_of_path p
unfolding kind_of_path
kind_of_start [] = refl
kind_of_start (s ∷ []) = refl
kind_of_start (s ∷ t ∷ []) = refl
kind_of_start (s ∷ t ∷ u ∷ p) = refl

pub first_full : (first : List (Bor (List ℕ))) (rest : Path) → length first ≡ 16
    → take 16 (segment_list first ++ rest) ≡ segment_list first
first_full first rest full = rw (← full, ← count_segments first) (take-append_seam (segment_list first) rest)

begins_by_start : (prefix path : Path) (n : ℕ) → length prefix ≤ n
    → begins_with prefix (take n path) ≡ begins_with prefix path
begins_by_start [] path n few = refl
begins_by_start (s ∷ prefix) path zero few = absurd (omega arith)
begins_by_start (s ∷ prefix) [] (suc n) few = refl
begins_by_start (s ∷ prefix) (t ∷ path) (suc n) few = rw (begins_by_start prefix path n (omega arith))

pub entry_by_start : (es : List ApplicationEntryValue) (path : Path) → AllByRecursion IsEntry es
    → entry_for es (take 16 path) ≡ entry_for es path
entry_by_start [] path each = refl
entry_by_start (e ∷ es) path each =
    rw (begins_by_start e.prefix path 16 (few_segments e.prefix each.0.path), entry_by_start es path each.1)

pub ruleset first_segments_steps = (count_segments, first_full, common_steps)

pub ruleset answers_steps = (kind_of_start, entry_by_start)
