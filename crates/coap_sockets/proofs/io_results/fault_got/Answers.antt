use Rattle.std.proofs.Common.{ap, sym, ◌∙◌}
use Rattle.coap_sockets.specs.IoResults as spec
use Rattle.coap_sockets.proofs.IoResultLemmas.{another_is_a_failure}
use Rattle.coap_sockets.proofs.io_results.fault_got.Goals as goal

pub returns-in-WouldBlock : goal.returns-in-WouldBlock
unfolding spec.fault_got
returns-in-WouldBlock c = ap spec.fault_got (sym c.in-WouldBlock.is ∙ c.kind.ensures)

pub returns-in-Interrupted : goal.returns-in-Interrupted
unfolding spec.fault_got
returns-in-Interrupted c = ap spec.fault_got (sym c.in-Interrupted.is ∙ c.kind.ensures)

pub returns-in_default : goal.returns-in_default
returns-in_default c =
    another_is_a_failure _ (λ is. c.in_default.not-WouldBlock (c.kind.ensures ∙ is))
    (λ is. c.in_default.not-Interrupted (c.kind.ensures ∙ is))
