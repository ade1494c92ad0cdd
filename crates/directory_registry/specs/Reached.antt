-- The registries that calls reach, and what holds of each.
use Rattle.std.specs.Prelude.{◌≡◌, ◌≢◌, ℕ, ◌<◌, List, [], ◌∷◌, Option, false, nat_eq}
use Rattle.std.specs.Cmp.Lexicographic.{pointwise}
use Rattle.directory_links.specs.Links.{Attribute}
use Rattle.directory_registry.specs.IndexViews.{Each}
use Rattle.directory_registry.specs.Registrations.{RegistrationValue, RegistryValue, place_of, registered_at, expired}
use Rattle.directory_registry.specs.Registrations.{removed, attributed, updated}

-- A new registry, or one after a registration, an update, a removal or the end of lifetimes.
pub data Reached : RegistryValue → Type 0 where
  Begun : (limit : ℕ) → Reached (record { entries = []; next = 1; limit = limit })
  AfterRegistration : (v : RegistryValue) (key : List ℕ) (r : RegistrationValue) → Reached v
      → Reached (registered_at (place_of v key) v key r)
  AfterUpdate : (v : RegistryValue) (number now : ℕ) (lifetime : Option ℕ) (base : Option (List ℕ)) → Reached v
      → Reached (updated v number now lifetime base)
  AfterAttributes : (v : RegistryValue) (number : ℕ) (attributes : List Attribute) → Reached v
      → Reached (attributed v number attributes)
  AfterRemoval : (v : RegistryValue) (number : ℕ) → Reached v → Reached (removed v number)
  AfterExpiry : (v : RegistryValue) (now : ℕ) → Reached v → Reached (expired v now)

-- No entry of the list has the key.
abbrev pub IsNewKey : List ℕ → List (List ℕ × RegistrationValue) → Type 0
IsNewKey key es = Each (λ e. pointwise nat_eq key e.0 ≡ false) es

-- No entry of the list has the location.
abbrev pub IsNewNumber : ℕ → List (List ℕ × RegistrationValue) → Type 0
IsNewNumber number es = Each (λ e. number ≢ e.1.number) es

-- The endpoints and the locations of the entries are distinct, and the locations are below `next`.
abbrev pub AreDistinct : ℕ → List (List ℕ × RegistrationValue) → Type 0
AreDistinct next [] = Unit {0}
AreDistinct next (e ∷ es) = (e.1.number < next) × IsNewKey e.0 es × IsNewNumber e.1.number es × AreDistinct next es
