use Rattle.std.proofs.Common.{◌≡◌, ◌+◌, ◌≤◌, None, false, length}
use Rattle.coap_client_engine.specs.Prelude.{RunTrace, status_in, turns_in, RunDevices, with_outlets, IsAtTrace}
use Rattle.coap_client_engine.specs.Prelude.{ExtendsTraceOn, IsReady, IsRequested}
use Rattle.coap_client_engine.proofs.run.state.Run.take_all.Given as goal

-- No outlet has failed, the run continues, and at least the counted number of bytes was processed.
abbrev pub invariant-loop : goal.invariant-loop
invariant-loop g l = record {
  out : g.O.Outlet.is_failed l.out ≡ false;
  err : g.E.Outlet.is_failed l.err ≡ false;
  runs : (start now : RunDevices) (trace : RunTrace)
      → IsAtTrace l.plan start (with_outlets (g.O.Outlet.written l.fn.out) (g.E.Outlet.written l.fn.err) now) l.fn.self
      trace → status_in trace ≡ None → IsReady trace
      → ExtendsTraceOn l.plan start (with_outlets (g.O.Outlet.written l.out) (g.E.Outlet.written l.err) now) l.self
      (IsRequested (turns_in trace)) None × (l.counter + length l.self.rest ≤ length l.fn.self.rest);
}
