use Rattle.std.proofs.Common.{ap, sym, ◌∙◌}
use Rattle.coap_sockets.specs.IoResults as spec
use Rattle.coap_sockets.proofs.IoResultLemmas.{another_is_full}
use Rattle.coap_sockets.proofs.io_results.accept_fault.Goals as goal

pub returns-in-WouldBlock : goal.returns-in-WouldBlock
unfolding spec.accept_fault
returns-in-WouldBlock c = ap spec.accept_fault (sym c.in-WouldBlock.is ∙ c.kind.ensures)

pub returns-in-Interrupted : goal.returns-in-Interrupted
unfolding spec.accept_fault
returns-in-Interrupted c = ap spec.accept_fault (sym c.in-Interrupted.is ∙ c.kind.ensures)

pub returns-in-ConnectionAborted : goal.returns-in-ConnectionAborted
unfolding spec.accept_fault
returns-in-ConnectionAborted c = ap spec.accept_fault (sym c.in-ConnectionAborted.is ∙ c.kind.ensures)

pub returns-in_default : goal.returns-in_default
returns-in_default c =
    another_is_full _ (λ is. c.in_default.not-WouldBlock (c.kind.ensures ∙ is))
    (λ is. c.in_default.not-Interrupted (c.kind.ensures ∙ is))
    (λ is. c.in_default.not-ConnectionAborted (c.kind.ensures ∙ is))
