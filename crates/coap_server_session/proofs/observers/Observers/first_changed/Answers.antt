use Rattle.std.proofs.Common.{◌<◌, length, map, sym, ◌∙◌, arith}
use Rattle.std.proofs.lemmas.List.{length-map}
use Rattle.coap_server_session.specs.Prelude.{mark_in}
use Rattle.coap_server_session.proofs.values.FlagLemmas.{first_is, flag_within}
use Rattle.coap_server_session.proofs.values.EntryLemmas.{read_at}
use Rattle.coap_server_session.proofs.observers.Observers.first_changed.Goals as goal

pub returns-clause-some : goal.returns-clause-some
returns-clause-some c =
    let items = c.self.inside.entries.items in
    let index = c.in_ok-index.index in
    let within : index < length items = omega (
      arith,
      length-map items mark_in,
      flag_within (map mark_in items) index (sym (c.self.invariant.flagged index) ∙ c.in_ok-index.ensures.some),
    ) in
    let there = read_at mark_in items index c.index.result.now within c.index.ensures in
    rw (← c.self.view_is)
    (first_is (record { index = index; mark = c.in_ok-mark.mark }) (map mark_in items) (rw c.in_ok-mark.was at there)
    (λ k less. sym (c.self.invariant.flagged k) ∙ c.in_ok-index.ensures.before k less))
