use Rattle.std.proofs.Common.{refl, ◌∙◌, sym}
use Rattle.program_explain.specs.Printed.{Time}
use Rattle.program_explain.proofs.PrintedLemmas.{one_printed, keeps_time, if_written}
use Rattle.program_explain.proofs.printer.Printer.show_time.Goals as goal

pub returns-then-is_some-clause-prints : goal.returns-then-is_some-clause-prints
returns-then-is_some-clause-prints g c = (keeps_time _ _ _ _ (sym c.is_some.ensures ∙ c.if-is_some.true), refl)

pub returns-clause-prints : goal.returns-clause-prints
returns-clause-prints g c =
    if_written _ _ _ c.print.result c.print.ensures.text
    (λ adds. (
      one_printed _ _ _ (Time c.args.seconds) _ _ _ (sym c.is_some.ensures ∙ c.if-is_some.false) c.print.ensures.time
          c.time_line.ensures adds,
      c.print.ensures.only,
    ))
