use Rattle.std.proofs.Common.{refl, None}
use Rattle.program_explain.specs.Printed.{Time}
use Rattle.program_explain.proofs.PrintedLemmas.{one_printed, prints_nothing, if_written}
use Rattle.program_explain.proofs.printer.Printer.print_time.Goals as goal

pub returns-in_default-clause-prints : goal.returns-in_default-clause-prints
returns-in_default-clause-prints g c = rw c.in_default.is (prints_nothing None None _)

pub returns-clause-prints : goal.returns-clause-prints
returns-clause-prints g c =
    rw c.in-Some.is
    (if_written _ _ _ c.print.result c.print.ensures.text
    (one_printed None None None (Time c.in-Some.seconds) _ _ _ refl refl c.time_line.ensures))
