use Rattle.std.proofs.Common.{ap}
use Rattle.coap_client_request.specs.Prelude.{Message, last_number}
use Rattle.coap_wire.proofs.OptionLists.{ordered_at, form_at}
use Rattle.coap_client_request.proofs.request.built.Goals as goal

pub add-requires-clause-order : goal.add-requires-clause-order
add-requires-clause-order c =
    rw (ap (λ (m : Message). last_number 0 m.options) c.loop-option.invariant)
    (ordered_at 0 c.args.options.now c.loop-option.option-index _ c.requires.row.ordered c.loop-option-test.true)

pub add-requires-clause-short : goal.add-requires-clause-short
add-requires-clause-short c =
    (form_at c.args.options.now c.loop-option.option-index _ c.requires.row.each c.loop-option-test.true).1
