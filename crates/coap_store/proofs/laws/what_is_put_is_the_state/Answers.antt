use Rattle.coap_store.specs.Prelude.{Put, Delete}
use Rattle.coap_store.proofs.ServingLaws.{state_elsewhere}
use Rattle.coap_store.proofs.laws.what_is_put_is_the_state.Goals as goal

pub returns-clause-put_elsewhere : goal.returns-clause-put_elsewhere
returns-clause-put_elsewhere c = λ s now path other format bytes. state_elsewhere s (Put path format bytes) now other

pub returns-clause-removed_elsewhere : goal.returns-clause-removed_elsewhere
returns-clause-removed_elsewhere c = λ s now path other. state_elsewhere s (Delete path) now other
