use Rattle.std.proofs.Common.{◌≡◌, None, false}
use Rattle.coap_client_engine.specs.Prelude.{records, ExtendsTraceOn, IsFlushed}
use Rattle.coap_client_engine.proofs.run.run_to_end.Given as goal

-- No outlet has failed, and the run continues after the counted number of iterations.
abbrev pub invariant-loop : goal.invariant-loop
invariant-loop g l = record {
  out : g.O.Outlet.is_failed l.out ≡ false;
  err : g.E.Outlet.is_failed l.err ≡ false;
  runs : ExtendsTraceOn l.plan
      (records (g.W.Wire.given l.fn.wire) (g.W.Wire.written l.fn.wire) (g.W.Wire.answers l.fn.wire)
      (g.C.Clock.moments l.fn.clock) (g.O.Outlet.written l.fn.out) (g.E.Outlet.written l.fn.err))
      (records (g.W.Wire.given l.wire) (g.W.Wire.written l.wire) (g.W.Wire.answers l.wire) (g.C.Clock.moments l.clock)
      (g.O.Outlet.written l.out) (g.E.Outlet.written l.err))
      l.run (IsFlushed l.counter) None;
}
