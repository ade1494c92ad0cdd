use Rattle.coap_store.proofs.ServingLaws.{valid_names}
use Rattle.coap_store.proofs.laws.responses_report_state.Goals as goal

pub returns-clause-named : goal.returns-clause-named
returns-clause-named c = valid_names
