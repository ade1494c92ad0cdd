use Rattle.coap_client_engine.proofs.ClientSteps.{unannounced}
use Rattle.coap_client_engine.proofs.LimitLaws.{last_size}
use Rattle.coap_client_engine.proofs.laws.last_announced_size_applies.Goals as goal

pub returns-clause-last : goal.returns-clause-last
returns-clause-last c = last_size

pub returns-clause-none : goal.returns-clause-none
returns-clause-none c = unannounced
