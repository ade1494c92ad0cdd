use Rattle.program_explain.proofs.PrintedLemmas.{printed_nothing}
use Rattle.program_explain.proofs.record.Record.begin.Goals as goal

pub returns-then-self-clause-prints : goal.returns-then-self-clause-prints
returns-then-self-clause-prints g c =
    rw c.if-self.true (printed_nothing g.O.Outlet.written c.args.self.now.explainer.printer)

pub returns-clause-prints : goal.returns-clause-prints
returns-clause-prints g c = rw c.if-self.false c.in_ok-begin.ensures.prints
