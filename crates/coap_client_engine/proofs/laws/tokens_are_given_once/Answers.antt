use Rattle.coap_client_engine.proofs.TokenLaws.{tokens_once}
use Rattle.coap_client_engine.proofs.laws.tokens_are_given_once.Goals as goal

pub returns : goal.returns
returns c = tokens_once
