-- Defined by this project: the model value and the invariant of the type `Registry`.
use Rattle.std.specs.Prelude.{◌≡◌, map, true, nat_le}
use Rattle.std.specs.List.{list_all}
use Rattle.std.specs.List.Sorted.{IsStrictlySortedBy}
use Rattle.std.specs.Ordering.{nat_cmp}
use Rattle.std.specs.Map.{keys_of}
use Rattle.directory_registry.specs.Registrations.{RegistryValue}
use Rattle.directory_registry.specs.RegistrationViews.{registration_of}
use Rattle.directory_registry.specs.IndexViews.{Each, IsIndexed}
use Rattle.directory_registry.specs.declared.registry.Registry.TheInside.{Inside}

unfoldable pub registry_of : Inside → RegistryValue
registry_of r = record {
  entries = map (λ e. (e.1.key.items, registration_of e.1.registration)) r.entries.entries;
  next = r.next;
  limit = r.limit;
}

-- The invariant of a registry. The registrations are in the order of their numbers, and the other maps lead to them.
-- None ends before the earliest time.
pub record IsRegistry (r : Inside) : Type 0 where
  pub ordered : IsStrictlySortedBy nat_cmp (keys_of r.entries.entries)
  pub indexed : Each (IsIndexed r.next r.numbers.entries r.labels.entries (λ k. k.items)) r.entries.entries
  pub earliest : list_all (λ e. nat_le r.earliest e.1.registration.deadline) r.entries.entries ≡ true
