-- Defined by this project: the invariant of a store.
use Rattle.std.specs.Prelude.{◌≡◌, ◌≢◌, ℕ, ◌<◌, ◌≤◌, ◌^◌, true, List, [], ◌∷◌, length, None, IfSome}
use Rattle.std.specs.List.{AllByRecursion}
use Rattle.coap_path.specs.Paths.{is_path}
use Rattle.coap_store.specs.Store.{Resource, StoreValue, found_in}
use Rattle.coap_path.specs.ResourceKinds.{kind_of_path}
use Rattle.coap_path.specs.declared.resource_kind.ResourceKind.TheVariants.{Dynamic}
use Rattle.coap_wire.specs.declared.sizes.TheConstants.{LARGEST_MESSAGE}

-- No path occurs twice.
abbrev pub AreDistinct : List Resource → Type 0
AreDistinct [] = Unit {0}
AreDistinct (r ∷ rs) = (found_in rs r.path ≡ None) × AreDistinct rs

-- No version occurs twice.
abbrev pub HaveOwnVersions : List Resource → Type 0
HaveOwnVersions [] = Unit {0}
HaveOwnVersions (r ∷ rs) = AllByRecursion (λ other. r.now.version ≢ other.now.version) rs × HaveOwnVersions rs

-- The resource has the path of a created resource, and a version between 1 and `versions`. Its Content-Format, if any,
-- is a 16-bit number, and it has at most `rep_max` bytes.
pub record IsKept (versions rep_max : ℕ) (r : Resource) : Type 0 where
  pub path : is_path r.path ≡ true
  pub place : kind_of_path r.path ≡ Dynamic
  pub numbered : 1 ≤ r.now.version
  pub given : r.now.version ≤ versions
  pub format : IfSome r.now.format (λ format. format < 65536)
  pub small : length r.now.bytes ≤ rep_max

-- The invariant of a store. No two resources have the same path or the same version, and no limit is exceeded.
pub record IsStore (s : StoreValue) : Type 0 where
  pub paths : AreDistinct s.resources
  pub own_versions : HaveOwnVersions s.resources
  pub kept : AllByRecursion (IsKept s.versions s.rep_max) s.resources
  pub few : length s.resources ≤ s.dynamic_max
  pub most : s.dynamic_max ≤ 1000
  pub largest : s.rep_max ≤ LARGEST_MESSAGE
  pub versions : s.versions < 2 ^ 64
