-- The size that a CSM announces.
use Rattle.std.proofs.Common.{◌≡◌, ℕ, ◌<◌, ◌≤◌, true, List, [], ◌∷◌, length, Option, Some, None, inl, inr, arith}
use Rattle.coap_conn.specs.Prelude.{option_map, is_none, find, CoapOption, Message, uint_of, is_size, is_bad}
use Rattle.coap_conn.specs.Prelude.{first_size}
use Rattle.std.proofs.lemmas.Bool.{cases_lt}

-- If the first Max-Message-Size is too long, the CSM has an option that it must not have.
bad_when_long : (os : List CoapOption) (o : CoapOption) → find is_size os ≡ Some o → find (is_bad true) os ≡ None → ⊥
bad_when_long [] o e f = cc
bad_when_long (x ∷ xs) o e f = grind (arith, bad_when_long xs o)

-- If the CSM has no such option, its first Max-Message-Size is a number.
pub announced_is : (m : Message) (o : CoapOption) (bytes : Option ℕ) → first_size m ≡ Some o
    → (length o.value ≤ 4 → bytes ≡ Some (uint_of o.value)) → (4 < length o.value → bytes ≡ None)
    → option_map (λ (p : CoapOption). p.number) (find (is_bad (is_none bytes)) m.options) ≡ None
    → bytes ≡ option_map (λ (p : CoapOption). uint_of p.value) (first_size m)
announced_is m o bytes first within above none =
    elim (cases_lt 4 (length o.value)) [
      | inl long ↦ (
          let bad = rw (above long) at none in
          let other : find (is_bad true) m.options ≡ None = grind arith in
          absurd (bad_when_long m.options o first other))
      | inr short ↦ rw first (within short)
    ]
