use Rattle.coap_command_line.proofs.WordLemmas.{comma_parts}
use Rattle.coap_command_line.proofs.arguments.client.split_at_comma.Goals as goal

pub returns : goal.returns
returns c = comma_parts c.args.text.now c.split_once.result c.split_once.ensures.cases
