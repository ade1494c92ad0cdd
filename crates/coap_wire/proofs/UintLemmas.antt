-- Leading zero bytes.
use Rattle.std.proofs.Common.{◌≡◌, ℕ, zero, suc, List, ◌∷◌, refl}
use Rattle.coap_wire.specs.Prelude.{without_leading_zeros}

pub stays : (b : ℕ) (s rest : List ℕ) → rest ≡ b ∷ s → (b ≡ 0 → ⊥) → rest ≡ without_leading_zeros rest
stays zero s rest e h = absurd (h refl)
stays (suc b) s rest e h = rw e refl

-- A list that does not begin with 0 has no leading zeros.
pub starts : (b : ℕ) (s rest : List ℕ) → rest ≡ b ∷ s → (b ≡ 0 → ⊥) → without_leading_zeros rest ≡ rest
starts zero s rest e h = absurd (h refl)
starts (suc b) s rest e h = rw e refl

pub ruleset zeros = (stays, starts)
