-- Defined by this project: what the entries of the map of registrations add to a listing, and how an entry is changed.
use Rattle.std.specs.Prelude.{ℕ, Bool, List, Option, Some, if◌then◌else◌}
use Rattle.std.specs.Option.{option_map_or}
use Rattle.std.specs.List.{fold}
use Rattle.std.specs.Map.{lookup, remove_entry}
use Rattle.std.specs.Prelude.{nat_eq, None}
use Rattle.std.specs.Cmp.Lexicographic.{pointwise}
use Rattle.directory_registry.specs.Registrations.{RegistrationValue}
use Rattle.directory_registry.specs.Matching.{CriterionValue}
use Rattle.directory_registry.specs.Lookups.{ListingValue, offered_links, offered_endpoint}
use Rattle.directory_registry.specs.RegistrationViews.{registration_of}
use Rattle.directory_registry.specs.Labels.{packed}
use Rattle.directory_registry.specs.IndexViews.{is_number}
use Rattle.directory_registry.specs.declared.registration.Stored.{Stored}

-- The listing after a registration: its endpoint, or its links.
abbrev pub counted : Bool → List CriterionValue → ListingValue → RegistrationValue → ListingValue
counted endpoints criteria v r = if endpoints then offered_endpoint criteria v r else offered_links criteria v r

-- The listing after these entries.
abbrev pub all_counted : Bool → List CriterionValue → ListingValue → List (ℕ × Stored) → ListingValue
all_counted endpoints criteria v es =
    fold (λ (w : ListingValue) (e : ℕ × Stored). counted endpoints criteria w (registration_of e.1.registration)) v es

-- The listing after the registration at this location, if there is one.
abbrev pub counted_at : Bool → List CriterionValue → List (ℕ × Stored) → ℕ → ListingValue → ListingValue
counted_at endpoints criteria es number v =
    option_map_or (λ s. counted endpoints criteria v (registration_of s.registration)) (lookup (is_number number) es) v

-- The number, if the registration there is that of the endpoint with this key.
abbrev pub number_with : List ℕ → ℕ → Option Stored → Option ℕ
number_with key n None = None
number_with key n (Some s) = if pointwise nat_eq s.key.items key then Some n else None

-- The number of the location that the map of numbers gives for a key, if the registration there has the key.
abbrev pub number_in : List ℕ → Option ℕ → List (ℕ × Stored) → Option ℕ
number_in key None es = None
number_in key (Some n) es = number_with key n (lookup (is_number n) es)

-- The labels after a registration with this label was stored at a location. They are without the label of a
-- registration that it replaced, unless both have the same.
abbrev pub without_label : Option ℕ → ℕ → ℕ → List (ℕ × ℕ) → List (ℕ × ℕ)
without_label None label number labels = labels
without_label (Some old) label number labels =
    if nat_eq old label then labels else remove_entry (is_number (packed old number)) labels
