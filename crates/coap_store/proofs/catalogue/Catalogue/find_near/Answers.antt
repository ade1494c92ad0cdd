use Rattle.std.proofs.Common.{arith}
use Rattle.coap_path.proofs.PathLemmas.{keys_equal}
use Rattle.coap_store.proofs.CatalogueLemmas.{resources_are}
use Rattle.coap_store.proofs.catalogue.Catalogue.find_near.Goals as goal

pub returns-then-eq : goal.returns-then-eq
returns-then-eq c = grind (arith, keys_equal, resources_are)
