use Rattle.std.proofs.Common.{refl, sym, ap, ◌∙◌}
use Rattle.coap_model.proofs.OptionLemmas.{one_made, none_made}
use Rattle.coap_conn.specs.Phases.{stop_of}
use Rattle.coap_model.specs.declared.answers.Status.{Status}
use Rattle.coap_server_engine.specs.Prelude.{session_status}
use Rattle.coap_server_engine.specs.values.InResults.{in_result}
use Rattle.program_explain.proofs.ExplainLemmas.{receives}
use Rattle.program_explain.proofs.explainer.Explainer.receive.Goals as goal

pub returns-in_default-clause-explained : goal.returns-in_default-clause-explained
returns-in_default-clause-explained g c =
    rw (none_made session_status _ (sym c.status.ensures ∙ c.in_default.is))
    (record { prints = rw c.refusal_line.ensures at c.in_ok-show_line.ensures.prints; messages = refl })

pub returns-clause-explained : goal.returns-clause-explained
returns-clause-explained g c =
    let it = one_made session_status _ _ (sym c.status.ensures ∙ c.in-Some.is) in
    rw it.1
    (receives g.O.Outlet.written c.args.self.now _ c.args.id c.show_bytes.new.printer c.show_line-2.new.self
    c.args.bytes.now (in_result c.args.self.now.server c.args.id c.args.bytes.now) it.0 c.stop-before.result
    c.in_ok-count.count _ c.in_ok-count.ensures.count
    (c.stop-before.ensures ∙ sym (ap (λ (t : Status). stop_of t.phase) it.2)) c.in_ok-count.ensures.after
    c.in_ok-show_bytes.ensures.prints (rw c.rejected_line.ensures at c.in_ok-show_line-2.ensures.prints)
    (rw c.stop_line.ensures at c.in_ok-show_line-3.ensures.prints) c.in_ok-show_bytes.ensures.messages)
