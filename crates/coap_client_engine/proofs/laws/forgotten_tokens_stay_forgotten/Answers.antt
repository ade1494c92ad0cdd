use Rattle.coap_client_engine.proofs.ForgetLaws.{never_again}
use Rattle.coap_client_engine.proofs.laws.forgotten_tokens_stay_forgotten.Goals as goal

pub returns : goal.returns
returns c = never_again
