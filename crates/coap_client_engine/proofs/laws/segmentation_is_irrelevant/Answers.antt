use Rattle.coap_client_engine.proofs.CutLaws.{cut_call_steps, cut_client}
use Rattle.coap_client_engine.proofs.laws.segmentation_is_irrelevant.Goals as goal

pub returns-clause-steps : goal.returns-clause-steps
returns-clause-steps c = cut_call_steps

pub returns-clause-client : goal.returns-clause-client
returns-clause-client c = cut_client
