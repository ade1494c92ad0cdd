use Rattle.std.proofs.Common.{arith}
use Rattle.std.proofs.lemmas.Result.{on_ok_weaker}
use Rattle.coap_store.proofs.CatalogueLemmas.{found_place, put_by_index}
use Rattle.coap_store.proofs.ListingLemmas.{head_is}
use Rattle.coap_store.proofs.catalogue.Catalogue.put.Goals as goal

pub invariant_of-self : goal.invariant_of-self
invariant_of-self c = grind (arith, c.create.ensures.listed, head_is)

pub returns-in-Some-clause-ok : goal.returns-in-Some-clause-ok
returns-in-Some-clause-ok c = grind (
  arith,
  c.self.view_is,
  found_place,
  c.self.inside.resources.entries,
  c.in-Some.index,
  on_ok_weaker,
  c.replace.result,
  put_by_index,
  c.args.self.now.resources,
)
