use Rattle.std.proofs.Common.{sym, ap, ◌∙◌}
use Rattle.coap_server_session.specs.Prelude.{answer_of, delay_or}
use Rattle.coap_server_session.proofs.values.AnsweringLemmas.{late_answered, handed_late}
use Rattle.coap_server_session.proofs.answering.answer.Goals as goal

-- A request that the application answers.
pub returns-in-Some : goal.returns-in-Some
returns-in-Some c =
    let shared = c.args.shared.now in
    let m = c.args.request.now in
    let delays = ap (λ d. delay_or d (answer_of shared.store shared.now m).hold)
    (sym c.application_deadline.ensures ∙ c.in-Some.is) in
    let at = rw c.from.ensures at c.saturating_add-moment.ensures in
    let e = c.hand_over-handed.ensures in
    assumption (
      late_answered shared c.args.link.now c.args.observers.now m _ _ _ c.hand_over-handed.new.observers delays at
          c.requires.marked e.link e.entries e.marks e.room,
      e.handed ∙ handed_late shared m delays c.args.link.now,
    )
