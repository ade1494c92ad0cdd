use Rattle.std.proofs.Common.{refl}
use Rattle.std.proofs.lemmas.List.{nil_from_length}
use Rattle.coap_script.specs.script.EventViews.{event_value}
use Rattle.coap_server_engine.specs.Prelude.{replayed}
use Rattle.program_explain.proofs.RecordLemmas.{explains_none, explains_next, explains_all}
use Rattle.program_explain.proofs.record.Record.explain_events.Goals as goal

pub loop-event-preserved : goal.loop-event-preserved
unfolding replayed
loop-event-preserved g c = record {
  server =
      rw c.in_ok-explain.ensures.server (rw c.in-Some.ensures.cases.0 at c.loop-event.invariant.server);
  prints =
      explains_next g.O.Outlet.written c.args.self.now.explainer c.loop-event.self.explainer c.explain.new.self _ _
      (event_value c.in-Some.event.now) _
      (rw c.in-Some.ensures.cases.0 at c.loop-event.invariant.prints) c.in_ok-explain.ensures.server
      (rw (c.deref.ensures.value, c.loop-event.invariant.line) at c.in_ok-explain.ensures.explained);
  line = c.loop-event.invariant.line;
  options = c.loop-event.invariant.options;
  shown = λ is. c.in_ok-explain.ensures.shown (c.loop-event.invariant.shown is);
  works = c.in_ok-explain.ensures.failure;
}

pub returns-clause-server : goal.returns-clause-server
unfolding replayed
returns-clause-server g c =
    rw (nil_from_length c.loop-event.left.now c.in_default.ensures.cases) at c.loop-event.invariant.server

pub loop-event-init : goal.loop-event-init
loop-event-init g c = record {
  server = refl;
  prints = explains_none g.O.Outlet.written c.args.self.now.explainer c.args.self.now.line.items _;
  line = refl;
  options = refl;
  shown = λ is. is;
  works = c.requires;
}

pub returns-clause-prints : goal.returns-clause-prints
returns-clause-prints g c =
    explains_all g.O.Outlet.written c.args.self.now.explainer c.loop-event.self.explainer _ _
    (rw (nil_from_length c.loop-event.left.now c.in_default.ensures.cases) at c.loop-event.invariant.prints)
