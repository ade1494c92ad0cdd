use Rattle.std.proofs.Common.{◌∙◌}
use Rattle.coap_client_request.proofs.TargetLemmas.{parsed_is_dotted}
use Rattle.coap_client_request.proofs.target.is_dotted.Goals as goal

pub returns : goal.returns
returns c = c.is_ok.ensures.value ∙ parsed_is_dotted c.args.text.now c.parse.result c.parse.ensures.value
