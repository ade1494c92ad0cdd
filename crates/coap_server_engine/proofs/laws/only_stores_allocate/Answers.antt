use Rattle.coap_server_engine.proofs.world.RefusedLaws.{refused_is_stored, other_not_refused}
use Rattle.coap_server_engine.proofs.laws.only_stores_allocate.Goals as goal

pub returns : goal.returns
returns c = assumption (refused_is_stored, other_not_refused)
