use Rattle.std.proofs.Common.{ap, sym, ◌∙◌}
use Rattle.coap_sockets.specs.IoResults as spec
use Rattle.coap_sockets.proofs.IoResultLemmas.{another_is_of_the_system}
use Rattle.coap_sockets.proofs.io_results.connect_error_of.Goals as goal

pub returns-in-ConnectionRefused : goal.returns-in-ConnectionRefused
unfolding spec.connect_error_of
returns-in-ConnectionRefused c = ap spec.connect_error_of (sym c.in-ConnectionRefused.is ∙ c.kind.ensures)

pub returns-in-HostUnreachable : goal.returns-in-HostUnreachable
unfolding spec.connect_error_of
returns-in-HostUnreachable c = ap spec.connect_error_of (sym c.in-HostUnreachable.is ∙ c.kind.ensures)

pub returns-in-NetworkUnreachable : goal.returns-in-NetworkUnreachable
unfolding spec.connect_error_of
returns-in-NetworkUnreachable c = ap spec.connect_error_of (sym c.in-NetworkUnreachable.is ∙ c.kind.ensures)

pub returns-in-NetworkDown : goal.returns-in-NetworkDown
unfolding spec.connect_error_of
returns-in-NetworkDown c = ap spec.connect_error_of (sym c.in-NetworkDown.is ∙ c.kind.ensures)

pub returns-in-AddrNotAvailable : goal.returns-in-AddrNotAvailable
unfolding spec.connect_error_of
returns-in-AddrNotAvailable c = ap spec.connect_error_of (sym c.in-AddrNotAvailable.is ∙ c.kind.ensures)

pub returns-in-TimedOut : goal.returns-in-TimedOut
unfolding spec.connect_error_of
returns-in-TimedOut c = ap spec.connect_error_of (sym c.in-TimedOut.is ∙ c.kind.ensures)

pub returns-in_default : goal.returns-in_default
returns-in_default c =
    another_is_of_the_system _
    (λ is. c.in_default.not-ConnectionRefused (c.kind.ensures ∙ is))
    (λ is. c.in_default.not-HostUnreachable (c.kind.ensures ∙ is))
    (λ is. c.in_default.not-NetworkUnreachable (c.kind.ensures ∙ is))
    (λ is. c.in_default.not-NetworkDown (c.kind.ensures ∙ is))
    (λ is. c.in_default.not-AddrNotAvailable (c.kind.ensures ∙ is))
    (λ is. c.in_default.not-TimedOut (c.kind.ensures ∙ is))
