-- Entries by their index, and the list after the first stale entry is changed.
use Rattle.std.proofs.Common.{◌≡◌, ℕ, zero, suc, ◌<◌, Bool, List, [], ◌∷◌, length, map, get_or, Some, None, refl, arith}
use Rattle.std.proofs.Common.{find, filter, not, slice_get, slice_set}
use Rattle.std.proofs.lemmas.Option.{slice_get_read, slice_get-map}
use Rattle.coap_server_session.specs.Prelude.{remove, same_bytes, first_becomes, without_entry, first_index}
use Rattle.coap_server_session.specs.Prelude.{observer_value}
use Rattle.coap_server_session.specs.declared.observer.Observer.{Observer}

-- ---- the first index

-- Operations at the first index agree with `find` and `first_becomes`.
pub record IsFirst {O : Type 0} (due : O → Bool) (os : List O) (i : ℕ) : Type 0 where
  pub within : i < length os
  pub found : find due os ≡ slice_get os i
  pub becomes : (o : O) → slice_set os i o ≡ first_becomes due (o ∷ []) os
  pub goes : remove os i ≡ first_becomes due [] os

pub is_first : {O : Type 0} (due : O → Bool) (os : List O) (i : ℕ) → first_index due os ≡ Some i → IsFirst due os i
unfolding first_index first_becomes
is_first due [] i e = absurd cc
is_first due (o ∷ os) zero e = record {
  within = omega arith;
  found = grind arith;
  becomes = λ p. grind arith;
  goes = grind arith;
}
is_first due (o ∷ os) (suc i) e = let later = is_first due os i in record {
  within = grind (arith, later);
  found = grind (arith, later);
  becomes = λ p. grind (arith, later);
  goes = grind (arith, later);
}

pub none_at_index : {O : Type 0} (due : O → Bool) (os : List O) → first_index due os ≡ None → find due os ≡ None
unfolding first_index
none_at_index due [] e = refl
none_at_index due (o ∷ os) e = grind (arith, none_at_index due os)

pub read_at : {V : Type 0} (v : Observer → V) (xs : List Observer) (i : ℕ) (x : Observer) → i < length xs
    → x ≡ get_or xs i x → slice_get (map v xs) i ≡ Some (v x)
read_at v xs i x within read = rw (slice_get-map, slice_get_read xs (length xs) i x refl within read) refl

pub other_values : (token : List ℕ) (os : List Observer)
    → map observer_value (filter (λ o. not (same_bytes o.token.items token)) os)
    ≡ without_entry token (map observer_value os)
unfolding without_entry
other_values token [] = refl
other_values token (o ∷ os) = grind (arith, other_values token os)
