-- Defined by this project: representations that were stored, identified by their versions.
use Rattle.std.specs.Prelude.{◌≡◌, ◌≤◌, Some}
use Rattle.coap_path.specs.Paths.{Path}
use Rattle.coap_store.specs.Store.{Representation, StoreValue, found_in}

-- A representation was stored at a path, and may still be stored. Its version was given to it, and a stored
-- representation with this version is the same, at the same path.
pub record WasStored (s : StoreValue) (path : Path) (sent : Representation) : Type 0 where
  pub given : sent.version ≤ s.versions
  pub same : (other : Path) (r : Representation) → found_in s.resources other ≡ Some r → r.version ≡ sent.version
      → (other ≡ path) × (r ≡ sent)
