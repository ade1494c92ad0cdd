-- Defined by this project: the invariant of entries.
use Rattle.std.specs.Prelude.{◌≡◌, ◌≤◌, Bool, true, false, List, [], ◌∷◌, length}
use Rattle.std.specs.List.{list_any, AllByRecursion}
use Rattle.coap_path.specs.Paths.{Path, same_path, is_path}
use Rattle.coap_path.specs.ResourceKinds.{kind_of_path, is_dynamic}
use Rattle.coap_path.specs.Applications.{ApplicationEntryValue}
use Rattle.coap_path.specs.Methods.{are_methods}
use Rattle.coap_path.specs.Attributes.{are_attributes}

-- The prefix is that of an entry.
abbrev pub has_prefix : List ApplicationEntryValue → Path → Bool
has_prefix entries prefix = list_any (λ e. same_path e.prefix prefix) entries

-- An entry has a path with at least one segment, which is not that of a built-in resource, methods, and attributes.
pub record IsEntry (e : ApplicationEntryValue) : Type 0 where
  pub path : is_path e.prefix ≡ true
  pub below_root : 1 ≤ length e.prefix
  pub dynamic : is_dynamic (kind_of_path e.prefix) ≡ true
  pub methods : are_methods e.methods ≡ true
  pub attributes : are_attributes e.attributes ≡ true

-- No two entries have the same prefix.
abbrev pub HaveOwnPrefixes : List ApplicationEntryValue → Type 0
HaveOwnPrefixes [] = Unit {0}
HaveOwnPrefixes (e ∷ es) = (has_prefix es e.prefix ≡ false) × HaveOwnPrefixes es

-- At most 16 entries, with different prefixes.
pub record AreEntries (entries : List ApplicationEntryValue) : Type 0 where
  pub few : length entries ≤ 16
  pub each : AllByRecursion IsEntry entries
  pub own : HaveOwnPrefixes entries
