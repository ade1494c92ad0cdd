-- Values stored with each observer: the hash of its path, whether the path is built in, and the changed mark.
use Rattle.std.proofs.Common.{◌≡◌, ℕ, zero, suc, ◌<◌, ◌≤◌, Bool, List, [], ◌∷◌, length, map, set, get_or, Option, Some}
use Rattle.std.proofs.Common.{None, refl, arith, slice_get, filter}
use Rattle.coap_server_session.specs.Prelude.{AllByRecursion, ObserverValue, ObserversValue, observer_value, mark_in}
use Rattle.coap_server_session.specs.Prelude.{remove}
use Rattle.std.proofs.lemmas.List.{map-set}
use Rattle.std.proofs.lemmas.List.Sums.{length-filter, count_by-le-length}
use Rattle.coap_server_session.proofs.values.EntryLemmas.{read_at}
use Rattle.coap_server_session.specs.declared.observer.Observer.{Observer}

-- ---- properties of all elements

pub all_set : {O : Type 0} (P : O → Type 0) (os : List O) (i : ℕ) (o : O) → AllByRecursion P os → P o
    → AllByRecursion P (set os i o)
all_set P [] i o all one = tt
all_set P (p ∷ os) zero o all one = (one, all.1)
all_set P (p ∷ os) (suc i) o all one = (all.0, all_set P os i o all.1 one)

pub all_remove : {O : Type 0} (P : O → Type 0) (os : List O) (i : ℕ) → AllByRecursion P os
    → AllByRecursion P (remove os i)
all_remove P [] zero all = tt
all_remove P [] (suc i) all = tt
all_remove P (o ∷ os) zero all = all.1
all_remove P (o ∷ os) (suc i) all = (all.0, all_remove P os i all.1)

pub all_at : {O : Type 0} (P : O → Type 0) (os : List O) (i : ℕ) (o : O) → AllByRecursion P os
    → i < length os → o ≡ get_or os i o → P o
all_at P [] i o all within read = absurd (omega arith)
all_at P (p ∷ os) zero o all within read = rw read all.0
all_at P (p ∷ os) (suc i) o all within read = all_at P os i o all.1 (omega arith) read

-- ---- elements that a filter keeps

pub others_keep_marks : (keep : Observer → Bool) (mark : ObserverValue → Option ℕ) (xs : List Observer)
    → map mark_in xs ≡ map mark (map observer_value xs)
    → map mark_in (filter keep xs) ≡ map mark (map observer_value (filter keep xs))
others_keep_marks keep mark [] same = refl
others_keep_marks keep mark (x ∷ xs) same = grind (arith, others_keep_marks keep mark xs)

-- If a filter keeps as many elements as there were, it keeps all.
pub all_kept_stay : {X : Type 0} (keep : X → Bool) (xs : List X)
    → length xs ≤ length (filter keep xs) → filter keep xs ≡ xs
all_kept_stay keep [] many = refl
all_kept_stay keep (x ∷ xs) many =
    grind (arith, all_kept_stay keep xs, length-filter keep xs, count_by-le-length keep xs)

-- ---- one written element

pub notified_value : (room : ℕ) (xs : List Observer) (i mark place : ℕ) (x : Observer) (o : ObserverValue)
    → i < length xs → x ≡ get_or xs i x → slice_get (map observer_value xs) i ≡ Some o
    → (let y : Observer = record x { mark = mark; index = place; changed = None } in ◌≡◌ {A = ObserversValue}
    (record { room = room; entries = map observer_value (set xs i y); marks = map mark_in (set xs i y) }) (record {
      room = room;
      entries = set (map observer_value xs) i (record o { mark = mark });
      marks = set (map mark_in xs) i None;
    }))
notified_value room xs i mark place x o within read at =
    let same : Some (observer_value x) ≡ Some o = rw (← at, read_at observer_value xs i x within read) refl in
    let value : observer_value x ≡ o = cc same in
    rw (← value, map-set, map-set) refl
