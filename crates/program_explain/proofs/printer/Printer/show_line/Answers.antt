use Rattle.program_explain.proofs.PrintedLemmas.{printed_nothing}
use Rattle.program_explain.proofs.printer.Printer.show_line.Goals as goal

pub returns-in-None-clause-prints : goal.returns-in-None-clause-prints
returns-in-None-clause-prints g c = rw c.in-None.is (printed_nothing g.O.Outlet.written c.args.self.now)
