-- Defined by this project: the changes that a store accepts.
use Rattle.std.specs.Prelude.{◌≡◌, ℕ, ◌+◌, ◌<◌, ◌≤◌, ◌^◌, Bool, true, false, ◌&&◌, ◌||◌, List, [], ◌∷◌, length, Option}
use Rattle.std.specs.Prelude.{is_some, nat_lt, IfSome, ◌==◌}
use Rattle.coap_wire.specs.Codes as code
use Rattle.coap_path.specs.Paths.{Path, is_path}
use Rattle.coap_store.specs.Store.{Representation, StoreValue, found_in, IsFoundAt}
use Rattle.coap_path.specs.ResourceKinds.{kind_of_path}
use Rattle.coap_store.specs.Answer.{Response, Change, Nothing, Put, Delete, changed}
use Rattle.coap_path.specs.declared.resource_kind.ResourceKind.TheVariants.{Dynamic}

-- The store accepts a representation. It is not too large, its path is that of a created resource that exists or may be
-- created, and a version is left.
pub record TakesPut (s : StoreValue) (path : Path) (bytes : List ℕ) : Type 0 where
  pub path_ok : is_path path ≡ true
  pub place : kind_of_path path ≡ Dynamic
  pub small : length bytes ≤ s.rep_max
  pub room : (is_some (found_in s.resources path) || nat_lt (length s.resources) s.dynamic_max) ≡ true
  pub version_left : s.versions + 1 < 2 ^ 64

-- The store accepts a change. Every change of an answer is accepted.
abbrev pub TakesChange : StoreValue → Change → Type 0
TakesChange s Nothing = Unit {0}
TakesChange s (Put path format bytes) = TakesPut s path bytes
TakesChange s (Delete path) = is_some (found_in s.resources path) ≡ true

-- The resource that the change replaces or removes has this index.
abbrev pub IsChangeAt : StoreValue → Change → ℕ → Type 0
IsChangeAt s Nothing index = Unit {0}
IsChangeAt s (Put path format bytes) index = IsFoundAt s.resources path index
IsChangeAt s (Delete path) index = IsFoundAt s.resources path index

-- The change stores a representation or removes a resource.
abbrev pub changes : Change → Bool
changes Nothing = false
changes (Put path format bytes) = true
changes (Delete path) = true

-- The response states that the store changes: 2.01, 2.04, or 2.02 for a resource that existed (RFC 7252 section 5.9.1).
abbrev pub says_change : Response → Option Representation → Bool
says_change r state = r.code == code.created || r.code == code.changed || (r.code == code.deleted && is_some state)

-- The change stores a representation.
abbrev pub IsPut : Change → Type 0
IsPut Nothing = ⊥
IsPut (Put path format bytes) = Unit {0}
IsPut (Delete path) = ⊥

-- The Content-Format of the change, if any, is a 16-bit number.
abbrev pub HasSmallFormat : Change → Type 0
HasSmallFormat Nothing = Unit {0}
HasSmallFormat (Put path format bytes) = IfSome format (λ number. number < 65536)
HasSmallFormat (Delete path) = Unit {0}

-- The store after these changes, one after the other.
abbrev pub changed_by : StoreValue → List Change → StoreValue
changed_by s [] = s
changed_by s (c ∷ cs) = changed_by (changed s c) cs

-- The store accepts these changes, one after the other.
abbrev pub TakesChanges : StoreValue → List Change → Type 0
TakesChanges s [] = Unit {0}
TakesChanges s (c ∷ cs) = TakesChange s c × TakesChanges (changed s c) cs
