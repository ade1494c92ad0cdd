use Rattle.program_explain.proofs.PrintedLemmas.{printed_then, so_on}
use Rattle.program_explain.proofs.messages.show_parts.Goals as goal

pub returns-clause-prints : goal.returns-clause-prints
returns-clause-prints g c =
    so_on c.show_line.result
    (λ last.
    rw (← c.in_ok-show_messages.ensures.tap, ← c.in_ok-show_messages-2.ensures.tap, ← c.rest_line.ensures)
    (printed_then g.O.Outlet.written
    (printed_then g.O.Outlet.written c.in_ok-show_messages.ensures.prints c.in_ok-show_messages-2.ensures.prints) last))
    c.show_line.ensures.prints
