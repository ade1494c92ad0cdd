-- Defined by this project: the resources of which the listing consists, apart from the built-in ones.
use Rattle.std.specs.Prelude.{List, Option}
use Rattle.coap_path.specs.Applications.{ApplicationsValue}
use Rattle.coap_store.specs.Store.{Resource}

-- The model value of a catalogue: the entries of the application, if there is one, and the created resources in
-- order of creation.
pub record CatalogueValue : Type 0 where
  pub applications : Option ApplicationsValue
  pub resources : List Resource
