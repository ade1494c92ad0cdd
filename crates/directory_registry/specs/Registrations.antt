-- RFC 9176 section 5: the registration of an endpoint as a value.
use Rattle.std.specs.Prelude.{ℕ, ◌+◌, ◌-◌, ◌^◌, List, [], ◌∷◌, length, map, filter, nat_eq, nat_lt, Bool, Option, Some}
use Rattle.std.specs.Prelude.{None, unwrap_or, ◌==◌, if◌then◌else◌}
use Rattle.std.specs.List.{list_any}
use Rattle.std.specs.Option.{option_map_or}
use Rattle.std.specs.Cmp.Lexicographic.{pointwise}
use Rattle.indexmap.specs.IndexMap.{insert_entry}
use Rattle.directory_links.specs.Links.{Attribute, Link}

-- A registration. It has the number of its location, its lifetime and the time at which it ends, both in seconds. It
-- also has its base URI, the attributes of its endpoint without `base`, and its links.
pub record RegistrationValue : Type 0 where
  pub number : ℕ
  pub lifetime : ℕ
  pub deadline : ℕ
  pub base : List ℕ
  pub attributes : List Attribute
  pub links : List Link

-- The registrations of a directory, by the keys of their endpoints and in the order of their first registration. The
-- others are the number of the next new location, and the maximum number of registrations.
pub record RegistryValue : Type 0 where
  pub entries : List (List ℕ × RegistrationValue)
  pub next : ℕ
  pub limit : ℕ

-- The registration of the endpoint with this key.
abbrev pub found : List (List ℕ × RegistrationValue) → List ℕ → Option RegistrationValue
found [] key = None
found (e ∷ es) key = if pointwise nat_eq key e.0 then Some e.1 else found es key

-- The number of a new location, unless the limit of registrations is reached.
abbrev pub new_place : RegistryValue → Option ℕ
new_place v = if nat_lt (length v.entries) v.limit then (if v.next == 2 ^ 64 - 1 then None else Some v.next) else None

-- The number of the location that a registration of this endpoint gets: that of its present registration, or a new one.
abbrev pub place_of : RegistryValue → List ℕ → Option ℕ
place_of v key = option_map_or (λ r. Some r.number) (found v.entries key) (new_place v)

-- The number of the next new location, after a registration at this one.
abbrev pub next_location : ℕ → ℕ → ℕ
next_location next number = if nat_lt number next then next else (if number == 2 ^ 64 - 1 then number else number + 1)

-- The directory after this registration of the endpoint. It replaces a present one in its place.
unfoldable pub registered : RegistryValue → List ℕ → RegistrationValue → RegistryValue
registered v key r = record {
  entries = insert_entry (pointwise nat_eq) v.entries key r;
  next = next_location v.next r.number;
  limit = v.limit;
}

-- The directory after this registration of the endpoint at the location with this number, if it gets one.
abbrev pub registered_at : Option ℕ → RegistryValue → List ℕ → RegistrationValue → RegistryValue
registered_at None v key r = v
registered_at (Some n) v key r = registered v key (record r { number = n })

-- The directory without the registrations that have ended at this time.
unfoldable pub expired : RegistryValue → ℕ → RegistryValue
expired v now = record v { entries = filter (λ e. nat_lt now e.1.deadline) v.entries }

-- The registration at this location.
abbrev pub found_at : List (List ℕ × RegistrationValue) → ℕ → Option RegistrationValue
found_at [] number = None
found_at (e ∷ es) number = if nat_eq e.1.number number then Some e.1 else found_at es number

-- A registration has this location.
abbrev pub has_location : RegistryValue → ℕ → Bool
has_location v number = list_any (λ e. nat_eq e.1.number number) v.entries

-- The entries without the one at this location.
abbrev pub without_location : List (List ℕ × RegistrationValue) → ℕ → List (List ℕ × RegistrationValue)
without_location [] number = []
without_location (e ∷ es) number = if nat_eq e.1.number number then es else e ∷ without_location es number

-- The directory without the registration at this location.
unfoldable pub removed : RegistryValue → ℕ → RegistryValue
removed v number = record v { entries = without_location v.entries number }

-- The registrations, in order.
abbrev pub registrations : RegistryValue → List RegistrationValue
registrations v = map (λ e. e.1) v.entries

-- The registration after it was renewed at the time `now`, with its lifetime and base URI or with new ones.
abbrev pub renewed : ℕ → Option ℕ → Option (List ℕ) → RegistrationValue → RegistrationValue
renewed now lifetime base r = record {
  number = r.number;
  lifetime = unwrap_or lifetime r.lifetime;
  deadline = now + unwrap_or lifetime r.lifetime;
  base = unwrap_or base r.base;
  attributes = r.attributes;
  links = r.links;
}

-- The registration with these attributes of its endpoint.
abbrev pub with_attributes : List Attribute → RegistrationValue → RegistrationValue
with_attributes attributes r = record r { attributes = attributes }

-- The entries with `change` made to the registration at this location.
abbrev pub with_change : (RegistrationValue → RegistrationValue) → ℕ → List (List ℕ × RegistrationValue)
    → List (List ℕ × RegistrationValue)
with_change change number [] = []
with_change change number (e ∷ es) =
    if nat_eq e.1.number number then (e.0, change e.1) ∷ es else e ∷ with_change change number es

-- The directory after the registration at this location got these attributes.
unfoldable pub attributed : RegistryValue → ℕ → List Attribute → RegistryValue
attributed v number attributes = record v { entries = with_change (with_attributes attributes) number v.entries }

-- The directory after the registration at this location was renewed.
unfoldable pub updated : RegistryValue → ℕ → ℕ → Option ℕ → Option (List ℕ) → RegistryValue
updated v number now lifetime base = record v { entries = with_change (renewed now lifetime base) number v.entries }
