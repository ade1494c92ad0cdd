use Rattle.std.proofs.Common.{ap, map, ◌∙◌}
use Rattle.coap_script.specs.script.EventViews.{event_value}
use Rattle.program_explain.proofs.RecordLemmas.{explains_line}
use Rattle.program_explain.proofs.record.Record.explain_event.Goals as goal

pub returns-clause-prints : goal.returns-clause-prints
returns-clause-prints g c =
    explains_line g.O.Outlet.written c.explain_events.result c.args.self.now.explainer c.begin.new.self.explainer
    c.explain_events.new.self.explainer c.args.self.now.has_begun c.args.self.now.line.items _ c.in-Ok.ensures.script
    (rw (c.in-Ok.ensures.explainer, c.in-Ok.ensures.begun) at c.in_ok-begin.ensures.prints)
    (rw c.in-Ok.ensures.explainer at c.in_ok-begin.ensures.server)
    (rw c.in-Ok.ensures.explainer at c.in_ok-begin.ensures.messages)
    (rw (c.in_ok-begin.ensures.line ∙ c.in-Ok.ensures.line, ap (map event_value) c.deref.ensures.value)
    at c.explain_events.ensures.prints)
