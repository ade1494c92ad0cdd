-- The entries of a map whose keys are numbers, by their indices.
use Rattle.std.proofs.Common.{◌≢◌, ℕ, ◌≡◌, zero, suc, ◌+◌, ◌<◌, ◌≤◌, List, [], ◌∷◌, ◌++◌, length, take, drop, Some}
use Rattle.std.proofs.Common.{refl, sym, ap, ◌∙◌, arith, slice_get, remove, add-one}
use Rattle.std.proofs.lemmas.List.{append_cancel_left, length-take-le, take_at, take_more, drop_at, drop_more}
use Rattle.std.proofs.lemmas.Option.{slice_get-map, slice_get_within, get_or_from_slice_get}
use Rattle.coap_serve.specs.Prelude.{keys_of, set_value_at, values_of}
use Rattle.coap_model.proofs.OptionLemmas.{one_made}
use Rattle.coap_model.proofs.streams.FlushLaws.{from_there_on}

-- A fact at an index holds at a later one if each step between them keeps it.
pub carried_on : (P : ℕ → Type 0) (from to : ℕ) → from ≤ to → P from
    → ((i : ℕ) → from ≤ i → i < to → P i → P (i + 1)) → P to
carried_on P from to order first step =
    (from_there_on (λ n. (from ≤ n) × (n ≤ to → P n)) from to order (omega arith, λ _. first)
    (λ n so_far. (
      omega (arith, so_far.0),
      λ below.
          rw (← add-one n) (step n so_far.0 below (so_far.1 (omega (arith, below)))),
    ))).1 (omega arith)

-- A value at an index is that of the entry at this index.
pub value_at : {P : Type 0} (es : List (ℕ × P)) (i : ℕ) (p : P) → slice_get (values_of es) i ≡ Some p → (e : ℕ × P)
    × (slice_get es i ≡ Some e) × (e.1 ≡ p)
value_at es i p at = one_made (λ e. e.1) (slice_get es i) p (sym (slice_get-map (λ e. e.1) es i) ∙ at)

pub next_first : {X : Type 0} (xs : List X) (i : ℕ) {x : X} → slice_get xs i ≡ Some x → drop i xs ≡ x ∷ drop (i + 1) xs
next_first xs i {x = x} at = rw (drop_more xs i x (slice_get_within xs i x at), get_or_from_slice_get xs i x x at) refl

-- ---- an entry that is written or removed

-- The entry at the index has the value.
pub set_there : {X : Type 0} (es : List (ℕ × X)) (i : ℕ) (w : X) (k : ℕ) (x : X) → slice_get es i ≡ Some (k, x)
    → slice_get (set_value_at es i w) i ≡ Some (k, w)
set_there [] i w k x at = absurd cc
set_there (e ∷ es) zero w k x at = cc
set_there (e ∷ es) (suc i) w k x at = set_there es i w k x at

-- The entries before it stay.
pub before_written : {X : Type 0} (es : List (ℕ × X)) (i : ℕ) (w : X) → take i (set_value_at es i w) ≡ take i es
before_written [] i w = refl
before_written (e ∷ es) zero w = refl
before_written (e ∷ es) (suc i) w = ap (λ xs. e ∷ xs) (before_written es i w)

-- The entries beside it stay.
pub beside_written : {X : Type 0} (es : List (ℕ × X)) (i : ℕ) (w : X) → remove (set_value_at es i w) i ≡ remove es i
beside_written [] i w = refl
beside_written (e ∷ es) zero w = refl
beside_written (e ∷ es) (suc i) w = ap (λ xs. e ∷ xs) (beside_written es i w)

-- Another entry than the one that is written stays.
pub each_written : {X : Type 0} (es : List (ℕ × X)) (at : ℕ) (w : X) (i : ℕ) → i ≢ at → slice_get (set_value_at es at w)
    i ≡ slice_get es i
each_written [] at w i apart = refl
each_written (e ∷ es) zero w zero apart = absurd (apart refl)
each_written (e ∷ es) zero w (suc i) apart = refl
each_written (e ∷ es) (suc at) w zero apart = refl
each_written (e ∷ es) (suc at) w (suc i) apart = each_written es at w i (λ same. apart (ap suc same))

-- The numbers stay.
pub keys_written : {X : Type 0} (es : List (ℕ × X)) (i : ℕ) (w : X) → keys_of (set_value_at es i w) ≡ keys_of es
keys_written [] i w = refl
keys_written (e ∷ es) zero w = refl
keys_written (e ∷ es) (suc i) w = ap (λ ks. e.0 ∷ ks) (keys_written es i w)

-- The elements before one that is removed stay.
pub front_stays : {X : Type 0} (xs : List X) (i : ℕ) → i < length xs → take i (remove xs i) ≡ take i xs
front_stays xs i within = take_at (take i xs) (drop (suc i) xs) i (length-take-le i xs (omega arith))

pub back_removed : {X : Type 0} (xs : List X) (i : ℕ) → i < length xs → drop i (remove xs i) ≡ drop (i + 1) xs
back_removed xs i within =
    rw (add-one i) (drop_at (take i xs) (drop (suc i) xs) i (length-take-le i xs (omega arith)))

pub front_kept : {X : Type 0} (xs : List X) (i : ℕ) (x : X) → slice_get xs i ≡ Some x → take (i + 1) xs ≡ take i xs ++ x
    ∷ []
front_kept xs i x at = rw (take_more xs i x (slice_get_within xs i x at), get_or_from_slice_get xs i x x at) refl

pub front_written : {X : Type 0} (es : List (ℕ × X)) (i k : ℕ) (x w : X) → slice_get es i ≡ Some (k, x) → take (i + 1)
    (set_value_at es i w) ≡ take i es ++ (k, w) ∷ []
front_written es i k x w at =
    rw (front_kept (set_value_at es i w) i (k, w) (set_there es i w k x at), before_written) refl

pub back_written : {X : Type 0} (es : List (ℕ × X)) (i : ℕ) (w : X) → drop (i + 1) (set_value_at es i w) ≡ drop (i + 1)
    es
back_written es i w =
    rw (add-one i) (append_cancel_left (take i es) _ _ (rw before_written at (beside_written es i w)))

pub length_written : {X : Type 0} (es : List (ℕ × X)) (i : ℕ) (w : X) → length (set_value_at es i w) ≡ length es
length_written [] i w = refl
length_written (e ∷ es) zero w = refl
length_written (e ∷ es) (suc i) w = ap (λ n. suc n) (length_written es i w)
