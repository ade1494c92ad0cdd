use Rattle.std.proofs.Common.{arith, ◌∙◌}
use Rattle.coap_wire.proofs.ReadingLaws.{message_again}
use Rattle.coap_wire.proofs.ReadingLaws.{found_is_spelled, fault_is_the_first}
use Rattle.coap_wire.proofs.message.parse.Goals as goal

pub returns-clause-found : goal.returns-clause-found
returns-clause-found c =
    found_is_spelled c.args.frame.now c.message_in.result (λ i. omega (arith, c.type_inv.frame i)) c.message_in.ensures

pub returns-clause-only : goal.returns-clause-only
returns-clause-only c = λ m spelled. c.message_in.ensures ∙ message_again c.args.frame.now m spelled

pub returns-clause-fault : goal.returns-clause-fault
returns-clause-fault c =
    fault_is_the_first c.args.frame.now c.message_in.result
    (λ i. omega (arith, c.type_inv.frame i)) c.message_in.ensures
