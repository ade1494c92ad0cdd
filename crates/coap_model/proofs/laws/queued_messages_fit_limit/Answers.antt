use Rattle.coap_model.proofs.world.LimitLaws.{step_fits, opening_fits}
use Rattle.coap_model.proofs.laws.queued_messages_fit_limit.Goals as goal

pub returns : goal.returns
returns c = assumption (step_fits, opening_fits)
