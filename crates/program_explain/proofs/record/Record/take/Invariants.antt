use Rattle.std.proofs.Common.{◌≡◌, false, length}
use Rattle.program_explain.specs.Shown.{IsShown}
use Rattle.program_explain.proofs.record.Record.take.Given as goal

abbrev pub invariant-loop-front : goal.invariant-loop-front
invariant-loop-front g l =
    record {
      shown : IsShown (g.O.Outlet.written l.fn.self.explainer.printer.out)
          → IsShown (g.O.Outlet.written l.self.explainer.printer.out);
      works : g.O.Outlet.is_failed l.self.explainer.printer.out ≡ false;
    }

abbrev pub decreases-loop-front : goal.decreases-loop-front
decreases-loop-front g l = length l.left
