use Rattle.std.proofs.Common.{◌≡◌, ◌+◌, false}
use Rattle.coap_serve.specs.Prelude.{LiesAt, session_of, stop_on}
use Rattle.coap_serve.proofs.streams.FlushLemmas.{AfterFlush}
use Rattle.coap_serve.proofs.output.flush_at.Given as goal

abbrev pub invariant-loop : goal.invariant-loop
invariant-loop g l =
    record {
      flushing : AfterFlush l.fn.id l.fn.server (l.counter + 1) l.server (g.W.Outlet.written l.fn.writer)
          (g.W.Outlet.written l.writer) (g.M.Monitor.follows l.fn.monitor)
          (g.M.Monitor.follows l.monitor) l.last.waited;
      stop : l.last.stop ≡ stop_on (session_of l.fn.id l.server.sessions);
      works : g.W.Outlet.is_failed l.writer ≡ false;
      lies : LiesAt l.fn.id l.fn.at l.server.sessions;
    }
