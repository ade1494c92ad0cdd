-- Defined by this project: the longest prefix that a path begins with.
use Rattle.std.specs.Prelude.{◌≡◌, ◌≢◌, ◌<◌, true, List, length}
use Rattle.std.specs.List.{Contains, AllByRecursion}
use Rattle.coap_path.specs.Paths.{Path}
use Rattle.coap_path.specs.Applications.{ApplicationEntryValue, begins_with}

-- The entry has the longest prefix that the path begins with: each other such prefix has fewer segments.
pub record IsLongest (entries : List ApplicationEntryValue) (path : Path) (e : ApplicationEntryValue) : Type 0 where
  pub among : Contains entries e
  pub begins : begins_with e.prefix path ≡ true
  pub others : AllByRecursion
      (λ f. begins_with f.prefix path ≡ true → f.prefix ≢ e.prefix → length f.prefix < length e.prefix) entries
