use Rattle.std.proofs.Common.{refl, ap, not, ◌∙◌, arith}
use Rattle.program_explain.specs.Printed.{Text}
use Rattle.program_explain.proofs.PrintedLemmas.{one_printed, prints_no_other, prints_after, if_written}
use Rattle.program_explain.proofs.printer.Printer.show.Goals as goal

pub returns-then-is_none-clause-prints : goal.returns-then-is_none-clause-prints
returns-then-is_none-clause-prints g c =
    if_written _ _ _ c.print.result c.print.ensures.text
    (λ adds. (
      one_printed _ _ _ (Text c.args.id c.args.line.now) _ _ _ (c.is_none.ensures ∙ ap not c.if-is_none.true)
          c.print.ensures.time refl adds,
      c.print.ensures.only,
    ))

pub returns-then-ne-clause-prints : goal.returns-then-ne-clause-prints
returns-then-ne-clause-prints g c = (
  prints_no_other _ _ _ _ _ (c.is_none.ensures ∙ ap not c.if-is_none.false)
      (grind (arith, c.ne.ensures, c.if-ne.true)),
  refl,
)

pub returns-clause-prints : goal.returns-clause-prints
returns-clause-prints g c =
    if_written _ _ _ c.print-2.result c.print-2.ensures.text
    (λ adds. (
      prints_after _ _ _ _ _ _ _ _ (c.is_none.ensures ∙ ap not c.if-is_none.false)
          (grind (arith, c.ne.ensures, c.if-ne.false))
          (c.print-2.ensures.time ∙ c.in_ok-print_time.ensures.none) c.in_ok-print_time.ensures.prints adds,
      c.print-2.ensures.only ∙ c.in_ok-print_time.ensures.only,
    ))
