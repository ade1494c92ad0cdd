use Rattle.coap_store.specs.Prelude.{store_value}
use Rattle.coap_store.proofs.StoreLemmas.{store_removed}
use Rattle.coap_store.proofs.store.Store.delete.Goals as goal

pub invariant_of-self : goal.invariant_of-self
invariant_of-self c =
    rw c.remove.ensures (store_removed (store_value c.self.inside) c.args.path.now c.self.invariant)

pub returns-clause-store : goal.returns-clause-store
returns-clause-store c =
    rw c.remove.ensures (store_removed (store_value c.self.inside) c.args.path.now c.self.invariant)
