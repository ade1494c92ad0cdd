use Rattle.coap_wire.proofs.OptionLists.{last_found}
use Rattle.coap_wire.proofs.builder.last_number.Goals as goal

pub returns : goal.returns
returns c = last_found c.args.options.now c.in-Some.last.now c.in-Some.ensures.value
