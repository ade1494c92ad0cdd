use Rattle.std.proofs.lemmas.Bool.{le-ltb}
use Rattle.program_explain.proofs.PrintedLemmas.{printed_nothing}
use Rattle.program_explain.proofs.explainer.Explainer.begin.Goals as goal

pub returns-else-moment-gt0-clause-prints : goal.returns-else-moment-gt0-clause-prints
returns-else-moment-gt0-clause-prints g c =
    rw (le-ltb 0 c.args.self.now.server.shared.now (rw c.moment-moment.ensures.moment at c.if-moment-gt0.false))
    (printed_nothing g.O.Outlet.written c.args.self.now.printer)
