use Rattle.std.proofs.Common.{◌≡◌, false, length}
use Rattle.program_explain.specs.Shown.{IsShown}
use Rattle.program_explain.proofs.MessageLemmas.{Passes}
use Rattle.program_explain.proofs.messages.show_messages.Given as goal

abbrev pub invariant-loop-left : goal.invariant-loop-left
invariant-loop-left g l =
    record {
      passes : Passes l.fn.id l.fn.way l.fn.printer.only l.fn.printer.time l.fn.bytes l.fn.tap
          (g.O.Outlet.written l.fn.printer.out) (g.O.Outlet.written l.printer.out)
          l.printer.time l.left l.tap;
      shown : IsShown (g.O.Outlet.written l.fn.printer.out) → IsShown (g.O.Outlet.written l.printer.out);
      only : l.printer.only ≡ l.fn.printer.only;
      works : g.O.Outlet.is_failed l.printer.out ≡ false;
    }

abbrev pub decreases-loop-left : goal.decreases-loop-left
decreases-loop-left g l = length l.left
