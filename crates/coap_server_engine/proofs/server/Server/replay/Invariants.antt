use Rattle.std.proofs.Common.{◌≡◌, false, map}
use Rattle.coap_server_engine.specs.Prelude.{event_value}
use Rattle.coap_server_engine.proofs.scripting.ReplayLemmas.{Replays}
use Rattle.coap_server_engine.proofs.server.Server.replay.Given as goal

abbrev pub invariant-loop-index : goal.invariant-loop-index
invariant-loop-index g l =
    record {
      replays : Replays l.fn.self (map event_value l.events) l.index l.self (g.W.Outlet.written l.fn.out)
          (g.W.Outlet.written l.out);
      works : g.W.Outlet.is_failed l.out ≡ false;
    }
