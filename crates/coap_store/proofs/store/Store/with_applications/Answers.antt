use Rattle.coap_store.specs.Prelude.{store_value}
use Rattle.coap_store.proofs.StoreLemmas.{bare_listing_short}
use Rattle.coap_store.proofs.store.Store.with_applications.Goals as goal

pub set_applications-requires : goal.set_applications-requires
set_applications-requires c = bare_listing_short (store_value c.store.inside) c.store.invariant
