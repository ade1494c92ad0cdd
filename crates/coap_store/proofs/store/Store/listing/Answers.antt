use Rattle.std.proofs.Common.{arith, length, ap}
use Rattle.coap_store.proofs.StoreLemmas.{listing_short}
use Rattle.coap_store.specs.Prelude.{store_value}
use Rattle.coap_store.proofs.store.Store.listing.Goals as goal

pub returns-clause-short : goal.returns-clause-short
returns-clause-short c =
    omega (
      arith,
      ap length c.listing.ensures,
      listing_short (store_value c.self.inside) c.self.inside.resources.applications c.self.invariant c.is_kept.ensures,
    )
