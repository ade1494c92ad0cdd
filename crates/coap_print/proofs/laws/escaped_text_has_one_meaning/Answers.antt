use Rattle.coap_print.proofs.EscapeLaws.{escaped_once}
use Rattle.coap_print.proofs.laws.escaped_text_has_one_meaning.Goals as goal

pub returns : goal.returns
returns c = escaped_once
