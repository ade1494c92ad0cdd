use Rattle.std.proofs.Common.{Some, None, rules, sym, ap, ◌∙◌}
use Rattle.coap_io.proofs.streams.DeviceLemmas.{bytes_none}
use Rattle.coap_client_engine.specs.Prelude.{Phase, stop_after}
use Rattle.coap_client_engine.proofs.RunLemmas.{answers_on, read}
use Rattle.coap_client_engine.proofs.run.state.Run.read_input.Goals as goal

pub returns-in-Some-clause-runs : goal.returns-in-Some-clause-runs
returns-in-Some-clause-runs g c = λ plan start now trace is_at goes fresh.
    let got = c.read-got.ensures in
    answers_on (Some 3) c.stopped.result c.stopped.ensures.ended c.stopped.ensures.reported
    (λ reported. read is_at c.read-got.result (Some c.in-Some.reason) goes fresh
    (sym c.is_empty.ensures ∙ c.if-not-is_empty.false) got.count got.client
    (c.in-Some.ensures ∙ ap (λ (p : Phase). stop_after p c.read-got.result) c.phase.ensures) (search rules))

pub returns-in-None-clause-runs : goal.returns-in-None-clause-runs
returns-in-None-clause-runs g c = λ plan start now trace is_at goes fresh.
    let got = c.read-got.ensures in
    read is_at c.read-got.result None goes fresh (sym c.is_empty.ensures ∙ c.if-not-is_empty.false) got.count
    got.client (c.in-None.ensures ∙ ap (λ (p : Phase). stop_after p c.read-got.result) c.phase.ensures)
    (search (rules, bytes_none))
