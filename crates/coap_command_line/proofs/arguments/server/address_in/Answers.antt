use Rattle.std.proofs.Common.{◌∙◌}
use Rattle.coap_command_line.proofs.WordLemmas.{address_read}
use Rattle.coap_command_line.proofs.arguments.server.address_in.Goals as goal

pub returns : goal.returns
returns c = c.ok.ensures.value ∙ address_read c.args.text.now c.parse.result c.parse.ensures.value
