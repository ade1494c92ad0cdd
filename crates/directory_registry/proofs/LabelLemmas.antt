-- Labels with numbers.
use Rattle.std.proofs.Common.{◌≡◌, ℕ, ◌+◌, ◌≤◌, ◌<◌, ◌^◌, false, cond, List, Some, ap, ◌∙◌}
use Rattle.std.proofs.Common.{arith}
use Rattle.std.specs.Ordering.{nat_cmp, is_gt}
use Rattle.std.specs.Map.{lookup}
use Rattle.std.proofs.lemmas.Bool.{cond_both}
use Rattle.std.proofs.lemmas.Bool.Decides.{nat_tests}
use Rattle.directory_registry.specs.Prelude.{packed, is_number, IsFound, registration_label}
use Rattle.directory_registry.specs.Prelude.{registration_of}
use Rattle.directory_registry.specs.declared.registration.Stored.{Stored}
use Rattle.directory_registry.proofs.EntryLemmas.{number_same}
use Rattle.directory_registry.proofs.RegistryLemmas.{packed_same}

pub not_gt : (a b : ℕ) → a ≤ b → is_gt (nat_cmp a b) ≡ false
not_gt a b h = grind (arith, nat_tests)

pub from_not_gt : (a b : ℕ) → is_gt (nat_cmp a b) ≡ false → a ≤ b
from_not_gt a b h = grind (arith, nat_tests, h)

pub packed_from : (l from n first : ℕ) → first ≡ packed l 0 → from ≤ n → first + from ≤ packed l n
unfolding packed
packed_from l from n first e h = omega arith

pub packed_below : (l n first : ℕ) → first ≡ packed l 0 → packed l n ≡ first + n
unfolding packed
packed_below l n first e = omega arith

pub packed_small : (l : ℕ) → l < 549755813888 → packed l 0 ≤ 10141204801825835193514865917952
unfolding packed
packed_small l h = omega arith

-- A registration that is found stays so after another label was added.
pub labels_added : (label n : ℕ) (ls ls' : List (ℕ × ℕ)) → n < 2 ^ 64
    → ((q : ℕ) → lookup (is_number q) ls' ≡ cond (is_number (packed label n) q) (Some n) (lookup (is_number q) ls))
    → (e : ℕ × Stored) → IsFound ls e → IsFound ls' e
labels_added label n ls ls' small up e f =
    let q = packed (registration_label (registration_of e.1.registration)) e.0 in
    record {
      small = f.small;
      label = up q
          ∙ cond_both (is_number (packed label n) q) _ _ (λ o. o ≡ Some e.0)
          (λ h. ap Some (packed_same label _ n e.0 small f.small (number_same _ _ h))) (λ h. f.label);
    }
