use Rattle.std.proofs.Common.{◌≡◌, false, length, map}
use Rattle.coap_script.specs.script.EventViews.{event_value}
use Rattle.coap_server_engine.specs.script.Replay.{replayed}
use Rattle.program_explain.specs.Shown.{IsShown}
use Rattle.program_explain.proofs.RecordLemmas.{ExplainsSome}
use Rattle.program_explain.proofs.record.Record.explain_events.Given as goal

-- The other events lead from the present server to the server after all.
abbrev pub invariant-loop-event : goal.invariant-loop-event
invariant-loop-event g l =
    record {
      server : (replayed l.self.explainer.server (map event_value l.left)).server
          ≡ (replayed l.fn.self.explainer.server (map event_value l.events)).server;
      prints : ExplainsSome (g.O.Outlet.written) l.fn.self.explainer l.fn.self.line.items (map event_value l.events)
          l.self.explainer (map event_value l.left);
      line : l.self.line ≡ l.fn.self.line;
      options : l.self.is_configured ≡ l.fn.self.is_configured;
      shown : IsShown (g.O.Outlet.written l.fn.self.explainer.printer.out)
          → IsShown (g.O.Outlet.written l.self.explainer.printer.out);
      works : g.O.Outlet.is_failed l.self.explainer.printer.out ≡ false;
    }

abbrev pub decreases-loop-event : goal.decreases-loop-event
decreases-loop-event g l = length l.left
