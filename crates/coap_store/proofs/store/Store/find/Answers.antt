use Rattle.coap_store.proofs.StoreLemmas.{lent_small}
use Rattle.coap_store.proofs.store.Store.find.Goals as goal

pub returns-clause-small : goal.returns-clause-small
returns-clause-small c = lent_small _ c.args.path.now c.get.result c.self.invariant c.get.ensures
