-- Defined by this project: what the maps of a registry say of its registrations.
use Rattle.std.specs.Prelude.{◌≡◌, ℕ, ◌<◌, ◌≤◌, ◌^◌, Bool, true, false, ◌||◌, List, [], ◌∷◌, nat_eq, Option, Some}
use Rattle.std.specs.Prelude.{is_some, IfSome}
use Rattle.std.specs.Option.{unwrap_or}
use Rattle.std.specs.Ordering.{nat_cmp, is_eq}
use Rattle.std.specs.Map.{lookup}
use Rattle.std.specs.Cmp.Lexicographic.{pointwise}
use Rattle.directory_registry.specs.Labels.{registration_label, packed}
use Rattle.directory_registry.specs.RegistrationViews.{registration_of}
use Rattle.directory_registry.specs.declared.registration.Stored.{Stored}

-- The key `n` of a map.
abbrev pub is_number : ℕ → ℕ → Bool
is_number n k = is_eq (nat_cmp n k)

-- A location with this number has the label.
abbrev pub is_labelled : List (ℕ × ℕ) → ℕ → ℕ → Bool
is_labelled labels label n = is_some (lookup (is_number (packed label n)) labels)

-- The result is the smallest number from `from` on that has the label.
abbrev pub IsNextWith : List (ℕ × ℕ) → ℕ → ℕ → Option ℕ → Type 0
IsNextWith labels label from next =
    ((n : ℕ) → from ≤ n → n < unwrap_or next (2 ^ 64) → is_labelled labels label n ≡ false)
    × IfSome next (λ n. (from ≤ n) × (n < 2 ^ 64) × (is_labelled labels label n ≡ true))

-- The result is the smallest number from `from` on that has the label, or the label 0.
abbrev pub IsNextCandidate : List (ℕ × ℕ) → ℕ → ℕ → Option ℕ → Type 0
IsNextCandidate labels label from next =
    ((n : ℕ) → from ≤ n → n < unwrap_or next (2 ^ 64)
    → (is_labelled labels label n ≡ false) × (is_labelled labels 0 n ≡ false))
    × IfSome next (λ n. (from ≤ n) × (n < 2 ^ 64) × ((is_labelled labels label n || is_labelled labels 0 n) ≡ true))

-- The property holds of each element.
abbrev pub Each : {A : Type 0} → (A → Type 0) → List A → Type 0
Each P [] = Unit {0}
Each P (x ∷ xs) = P x × Each P xs

-- The map of labels leads to the registration.
pub record IsFound (labels : List (ℕ × ℕ)) (e : ℕ × Stored) : Type 0 where
  pub small : e.0 < 2 ^ 64
  pub label : lookup (is_number (packed (registration_label (registration_of e.1.registration)) e.0)) labels ≡ Some e.0

-- A registration is at its number, below the next one, and both other maps lead to it.
pub record IsIndexed {K : Type 0} (next : ℕ) (numbers : List (K × ℕ)) (labels : List (ℕ × ℕ)) (items : K → List ℕ)
    (e : ℕ × Stored) : Type 0 where
  pub number : e.1.registration.number ≡ e.0
  pub below : e.0 < next
  pub key : lookup (λ k. pointwise nat_eq e.1.key.items (items k)) numbers ≡ Some e.0
  pub found : IsFound labels e
