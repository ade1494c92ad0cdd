use Rattle.coap_store.proofs.RememberingLaws.{was_stored}
use Rattle.coap_store.proofs.laws.versions_identify_representations.Goals as goal

pub returns-clause-changed : goal.returns-clause-changed
returns-clause-changed c = was_stored
