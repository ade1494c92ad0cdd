-- Defined by this project: the model value and the invariant of the type `Catalogue`.
use Rattle.std.specs.Prelude.{◌≡◌, ◌≤◌, length}
use Rattle.coap_store.specs.Catalogues.{CatalogueValue}
use Rattle.coap_store.specs.Listing.{first_bytes}
use Rattle.coap_store.specs.ResourceViews.{resources_in, texts_of}
use Rattle.coap_store.specs.declared.catalogue.Catalogue.TheInside.{Inside}

abbrev pub catalogue_value : Inside → CatalogueValue
catalogue_value c = record { applications = c.applications; resources = resources_in c.resources.entries }

-- The invariant of a catalogue: the listing has the texts of the built-in resources, of the application and of the
-- created resources. Each of 16 entries of the application has at most 1,024 bytes, and the built-in resources have 39.
pub record IsCatalogue (c : Inside) : Type 0 where
  pub listed : c.listing ≡ texts_of (first_bytes c.applications) (resources_in c.resources.entries)
  pub short : length (first_bytes c.applications) ≤ 16423
