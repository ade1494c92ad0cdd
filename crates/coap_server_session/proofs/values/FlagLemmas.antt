-- Flags and the changed marks of observers.
use Rattle.std.proofs.Common.{◌≡◌, ℕ, suc, ◌+◌, ◌<◌, Bool, true, false, List, [], ◌∷◌, ◌++◌, length, map, take, set}
use Rattle.std.proofs.Common.{get_or, replicate, Option, Some, None, is_some, refl, ap, arith, slice_get, zero}
use Rattle.std.proofs.lemmas.Grind.{common_steps}
use Rattle.std.proofs.lemmas.List.{length-map, map-set}
use Rattle.std.proofs.Math.Seq.{map-set_same}
use Rattle.std.proofs.lemmas.Option.{gets}
use Rattle.coap_server_session.specs.Prelude.{StaleObserver, first_index, IsFirstMarked, flag_of, AreFlagged, mark_in}
use Rattle.coap_server_session.specs.declared.observer.Observer.{Observer}

-- A list of default values has the default at every index.
pub all_default : {X : Type 0} (n i : ℕ) (x : X) → get_or (replicate n x) i x ≡ x
all_default n i x = grind (arith, common_steps)

-- ---- flags

pub put_flagged : (flags : List Bool) (marks : List (Option ℕ)) (i : ℕ) (mark : Option ℕ) → i < length flags
    → i < length marks → AreFlagged flags marks → AreFlagged (set flags i (is_some mark)) (set marks i mark)
put_flagged flags marks i mark here there flagged = λ k. let f = flagged k in grind (arith, common_steps, gets)

-- Lemmas on observers of which one is written.
pub ruleset writes = (map-set_same, map-set, length-map, put_flagged)

pub entered_flagged : (flags : List Bool) (marks : List (Option ℕ)) → AreFlagged flags marks
    → AreFlagged flags (marks ++ None ∷ [])
entered_flagged flags marks flagged = λ k. let f = flagged k in grind (arith, common_steps, gets)

pub none_marked : (marks : List (Option ℕ)) → ((i : ℕ) → flag_of (slice_get marks i) ≡ false)
    → first_index is_some marks ≡ None
unfolding first_index
none_marked [] none = refl
none_marked (m ∷ ms) none = rw (none 0, none_marked ms (λ i. none (suc i))) refl

first_flagged : (marks : List (Option ℕ)) (i : ℕ) → flag_of (slice_get marks i) ≡ true
    → ((k : ℕ) → k < i → flag_of (slice_get marks k) ≡ false) → first_index is_some marks ≡ Some i
unfolding first_index
first_flagged [] i is before = absurd cc
first_flagged (m ∷ ms) zero is before = rw is refl
first_flagged (m ∷ ms) (suc i) is before =
    rw (before 0 (omega arith), first_flagged ms i is (λ k less. before (suc k) (omega arith))) refl

pub first_is : (found : StaleObserver) (marks : List (Option ℕ)) → slice_get marks found.index ≡ Some (Some found.mark)
    → ((k : ℕ) → k < found.index → flag_of (slice_get marks k) ≡ false) → IsFirstMarked marks found
first_is found marks there before =
    record { first = first_flagged marks found.index (ap flag_of there) before; mark = there }

-- A flag is set only at the index of an entry.
pub flag_within : (marks : List (Option ℕ)) (i : ℕ) → flag_of (slice_get marks i) ≡ true → i < length marks
flag_within marks i is = grind (arith, gets)

pub one_more_flagged : (flags : List Bool) (xs : List Observer) (n : ℕ) (x : Observer) → n < length flags
    → n < length xs → x ≡ get_or xs n x → AreFlagged flags (map mark_in (take n xs))
    → AreFlagged (set flags n (is_some (mark_in x))) (map mark_in (take (n + 1) xs))
one_more_flagged flags xs n x here there read flagged = λ k.
    let f = flagged k in
    grind (arith, common_steps, gets, length-map (take n xs) mark_in)
