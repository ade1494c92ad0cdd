use Rattle.std.proofs.Common.{Some, ap, sym, ◌∙◌}
use Rattle.coap_model.proofs.OptionLemmas.{one_made, none_made}
use Rattle.coap_server_engine.specs.Prelude.{session_status}
use Rattle.program_explain.specs.Explanations.{server_line}
use Rattle.program_explain.proofs.explainer.events.status.Goals as goal

pub returns-in_default-clause-line : goal.returns-in_default-clause-line
returns-in_default-clause-line c =
    rw (none_made session_status _ (sym c.status.ensures ∙ c.in_default.is)) c.refusal_line.ensures

pub returns-clause-line : goal.returns-clause-line
returns-clause-line c =
    let it = one_made session_status _ _ (sym c.status.ensures ∙ c.in-Some.is) in
    rw it.1 (c.server_line.ensures
    ∙ ap (server_line (Some c.args.id)) (c.deref.ensures.value ∙ rw (← it.2) at c.in_ok-line.ensures))
