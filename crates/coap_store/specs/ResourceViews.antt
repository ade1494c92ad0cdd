-- Defined by this project: the type `Resource` as values of the model.
use Rattle.std.specs.Prelude.{ℕ, List, [], ◌∷◌, map}
use Rattle.coap_path.specs.Paths.{Path}
use Rattle.coap_store.specs.Store.{Representation}
use Rattle.coap_store.specs.Store as store
use Rattle.coap_store.specs.Listing.{entry_bytes}
use Rattle.coap_store.specs.declared.resource.Resource.{Resource}

-- The representation of a resource.
abbrev pub representation : Resource → Representation
representation r = record { version = r.version; format = r.format; bytes = r.bytes.items }

-- A path with its resource as a value of the model.
abbrev pub resource_at : Path × Resource → store.Resource
resource_at e = record { path = e.0; now = representation e.1 }

unfoldable pub resources_in : List (Path × Resource) → List store.Resource
resources_in entries = map resource_at entries

-- The texts of which the listing consists: the first one, and that of each created resource.
unfoldable pub texts_of : List ℕ → List store.Resource → List (List ℕ)
texts_of first rs = first ∷ map (λ r. entry_bytes r.path r.now.format) rs

-- The first of some texts.
abbrev pub head_of : List (List ℕ) → List ℕ
head_of [] = []
head_of (t ∷ ts) = t
