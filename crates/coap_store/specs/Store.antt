-- Defined by this project: the created resources of a server, which the methods of RFC 7252 section 5.8 change.
use Rattle.std.specs.Prelude.{◌≡◌, ℕ, zero, suc, ◌+◌, true, false, List, [], ◌∷◌, Option, Some, None, if◌then◌else◌}
use Rattle.coap_path.specs.Paths.{Path, same_path}
use Rattle.coap_path.specs.Applications.{ApplicationsValue}

-- A representation: its version, its Content-Format, if any, and its bytes.
pub record Representation : Type 0 where
  pub version : ℕ
  pub format : Option ℕ
  pub bytes : List ℕ

-- A created resource: its path and its representation.
pub record Resource : Type 0 where
  pub path : Path
  pub now : Representation

-- The model value of a store. `dynamic_max` limits the number of created resources, and `rep_max` the bytes of each.
-- `resources` are in order of creation. `versions` is the version of the representation stored last. `applications` are
-- the paths whose requests the embedding program answers, if there are such.
pub record StoreValue : Type 0 where
  pub dynamic_max : ℕ
  pub rep_max : ℕ
  pub resources : List Resource
  pub versions : ℕ
  pub applications : Option ApplicationsValue

-- The representation that is stored at a path, if any.
unfoldable pub found_in : List Resource → Path → Option Representation
found_in [] path = None
found_in (r ∷ rs) path = if same_path path r.path then Some r.now else found_in rs path

-- The resources after a representation was stored at a path. A present resource keeps its place, and a new one goes
-- last.
unfoldable pub put_at : List Resource → Path → Representation → List Resource
put_at [] path now = record { path = path; now = now } ∷ []
put_at (r ∷ rs) path now = if same_path path r.path then record r { now = now } ∷ rs else r ∷ put_at rs path now

-- The resources without the resource at a path, if there is one. The others keep their order.
unfoldable pub removed_at : List Resource → Path → List Resource
removed_at [] path = []
removed_at (r ∷ rs) path = if same_path path r.path then rs else r ∷ removed_at rs path

-- The resource at a path has this index.
abbrev pub IsFoundAt : List Resource → Path → ℕ → Type 0
IsFoundAt [] path index = ⊥
IsFoundAt (r ∷ rs) path zero = same_path path r.path ≡ true
IsFoundAt (r ∷ rs) path (suc index) = (same_path path r.path ≡ false) × IsFoundAt rs path index

-- The resources after another representation was stored at the one with this index, if there is one.
unfoldable pub replaced_at : List Resource → ℕ → Representation → List Resource
replaced_at [] index now = []
replaced_at (r ∷ rs) zero now = record r { now = now } ∷ rs
replaced_at (r ∷ rs) (suc index) now = r ∷ replaced_at rs index now

-- The store after a representation was stored at a path, with the next version.
abbrev pub put_in : StoreValue → Path → Option ℕ → List ℕ → StoreValue
put_in s path format bytes =
    record s {
      resources = put_at s.resources path (record { version = s.versions + 1; format = format; bytes = bytes });
      versions = s.versions + 1;
    }

-- The store after the resource at a path, if any, was removed.
abbrev pub removed_in : StoreValue → Path → StoreValue
removed_in s path = record s { resources = removed_at s.resources path }
