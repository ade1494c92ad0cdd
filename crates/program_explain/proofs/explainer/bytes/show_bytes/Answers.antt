use Rattle.std.proofs.Common.{ap, sym}
use Rattle.program_explain.specs.Explanations.{messages_in}
use Rattle.program_explain.proofs.ExplainLemmas.{written_through}
use Rattle.program_explain.proofs.PrintedLemmas.{printed_nothing, so_on}
use Rattle.program_explain.proofs.explainer.bytes.show_bytes.Goals as goal

pub returns-in_default-clause-prints : goal.returns-in_default-clause-prints
returns-in_default-clause-prints g c =
    rw (← c.in_default.ensures.value) (printed_nothing g.O.Outlet.written c.args.printer.now)

pub returns-in_default-clause-messages : goal.returns-in_default-clause-messages
returns-in_default-clause-messages g c =
    rw (← c.in_default.ensures.value) (ap messages_in c.get_mut.follows.holds-at-none)

pub returns-in-In-clause-prints : goal.returns-in-In-clause-prints
returns-in-In-clause-prints g c =
    rw (← c.in-Some.ensures.value, c.in-In.is) (rw c.in-In.is at c.show_parts.ensures.prints)

pub returns-in-Out-clause-prints : goal.returns-in-Out-clause-prints
returns-in-Out-clause-prints g c =
    rw (← c.in-Some.ensures.value, c.in-Out.is) (rw c.in-Out.is at c.show_parts-in-Out.ensures.prints)

pub returns-in-In-clause-messages : goal.returns-in-In-clause-messages
returns-in-In-clause-messages g c =
    rw (← c.in-Some.ensures.value, c.in-In.is)
    (so_on c.show_parts.result
    (λ is. rw (← is) (written_through _ _ _ _ _ (c.get_mut.follows.holds _) (sym c.in-Some.ensures.value)))
    (rw c.in-In.is at c.show_parts.ensures.tap))

pub returns-in-Out-clause-messages : goal.returns-in-Out-clause-messages
returns-in-Out-clause-messages g c =
    rw (← c.in-Some.ensures.value, c.in-Out.is)
    (so_on c.show_parts-in-Out.result
    (λ is. rw (← is) (written_through _ _ _ _ _ (c.get_mut.follows.holds _) (sym c.in-Some.ensures.value)))
    (rw c.in-Out.is at c.show_parts-in-Out.ensures.tap))
