use Rattle.coap_client_engine.proofs.FitLaws.{step_grows}
use Rattle.coap_client_engine.proofs.laws.queued_messages_fit_limit.Goals as goal

pub returns : goal.returns
returns c = step_grows
