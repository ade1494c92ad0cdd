-- Defined by this project: the model value of the type `Page`.
use Rattle.directory_registry.specs.Lookups.{PageValue}
use Rattle.directory_registry.specs.declared.listing.Page.{Page}

abbrev pub page_of : Page → PageValue
page_of p = record { skip = p.skip; count = p.count }
