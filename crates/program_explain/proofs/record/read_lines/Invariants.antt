use Rattle.std.proofs.Common.{◌≡◌, false}
use Rattle.program_explain.specs.Shown.{IsShown}
use Rattle.coap_record.specs.Prelude.{append_known}
use Rattle.program_explain.proofs.record.read_lines.Given as goal

abbrev pub invariant-loop : goal.invariant-loop
invariant-loop g l =
    record {
      source : g.S.Source.is_failed l.source ≡ false;
      works : g.O.Outlet.is_failed l.explained.explainer.printer.out.outlet ≡ false;
      shown : IsShown (append_known (g.O.Outlet.written l.fn.explained.explainer.printer.out.outlet)
          l.fn.explained.explainer.printer.out.queue.waiting)
          → IsShown (append_known (g.O.Outlet.written l.explained.explainer.printer.out.outlet)
          l.explained.explainer.printer.out.queue.waiting);
    }
