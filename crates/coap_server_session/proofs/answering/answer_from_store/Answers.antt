use Rattle.std.proofs.Common.{◌≡◌, List, Bool, true, false, ◌&&◌, Some, None, nat_lt, length, refl, sym, ap, ◌∙◌}
use Rattle.std.proofs.Math.Bool.{not-not}
use Rattle.coap_server_session.specs.Prelude.{ObserverValue, ObserversValue, without_entry, is_observed}
use Rattle.coap_server_session.specs.Prelude.{AreMarked, changed_mark, new_entry, is_whole, with_entry, Engine}
use Rattle.coap_server_session.specs.Prelude.{asks_entry, Delay, delay_on}
use Rattle.coap_store.specs.Answer.{Answer}
use Rattle.coap_store.proofs.AnswerLaws.{located_of}
use Rattle.coap_io.proofs.streams.WriteLemmas.{on_any_fault}
use Rattle.coap_server_session.proofs.values.AnsweringLemmas.{IsAnswered, may_watch, late_answered, prompt_is}
use Rattle.coap_server_session.proofs.values.AnsweringLemmas.{change_answered, prompt_answered}
use Rattle.coap_server_session.proofs.answering.answer_from_store.Goals.{After-respond-reply, then-asks_entry}
use Rattle.coap_server_session.proofs.answering.answer_from_store.Goals.{else-asks_entry}
use Rattle.coap_server_session.proofs.answering.answer_from_store.Goals.{else-observes-via-then-observes+else-is_whole}
use Rattle.coap_server_session.proofs.answering.answer_from_store.Goals.{else-observes-via-else-observes}
use Rattle.coap_server_session.proofs.answering.answer_from_store.Goals as goal

-- A request whose response is to be delayed.
pub returns-in-Some : goal.returns-in-Some
returns-in-Some c =
    let shared = c.args.shared.now in
    let m = c.args.request.now in
    let holds = ap (λ (a : Answer). a.hold) (sym c.fill_plan-index.ensures.answer) ∙ sym c.in-Some.ensures.seconds in
    let d : Delay = record { by = Engine; seconds = c.in-Some.seconds } in
    let delays : delay_on shared m ≡ Some d = rw (c.requires.unhanded, holds) refl in
    let e = c.delay_answer.ensures in
    assumption (late_answered shared c.args.link.now c.args.observers.now m d _ _ c.delay_answer.new.observers delays
    (rw c.from.ensures at c.saturating_add-moment.ensures) c.requires.marked e.link e.entries e.marks e.room)

-- ---- a request that changes nothing

pub add_observer-requires-clause-watched : goal.add_observer-requires-clause-watched
add_observer-requires-clause-watched c =
    let prompt = prompt_is c.args.shared.now c.args.request.now c.requires.unhanded c.fill_plan-index.new.plan
    c.fill_plan-index.ensures.answer (sym c.hold.ensures.seconds ∙ c.in_default.is) in
    elim c.if-asks_entry.branch [
      | then-asks_entry w ↦
          may_watch c.args.shared.now c.args.request.now
          (cc (prompt.1, c.watch.ensures, c.asks_entry.ensures, w.if-asks_entry.true))
      | else-asks_entry w ↦ absurd (let bad : ◌≡◌ {A = Bool} false true = cc (w.if-asks_entry.false) in cc)
    ]

pub respond-reply-requires-clause-located : goal.respond-reply-requires-clause-located
respond-reply-requires-clause-located c =
    let answer = c.fill_plan-index.ensures.answer in
    ap (λ (a : Answer). a.response.location) answer
    ∙ located_of _ _ _ (rw answer at (sym c.changes.ensures ∙ c.if-changes.false))

-- The request changes nothing: its response is sent, and the entries after it are the defined ones.
prompted : (c : After-respond-reply) (enters : Bool) (p : ObserversValue)
    → (c.if-asks_entry.observes && is_whole c.respond-reply.result) ≡ enters
    → p.entries ≡ with_entry enters c.remove_token.new.self.entries
    (new_entry c.args.shared.now c.args.request.now)
    → p.room ≡ c.remove_token.new.self.room
    → (AreMarked c.args.shared.now c.remove_token.new.self.entries c.remove_token.new.self.marks
    → AreMarked c.args.shared.now p.entries p.marks)
    → IsAnswered c.args.shared.now c.args.link.now c.args.observers.now c.args.request.now None c.respond-reply.new.link
    p c.args.shared.now
prompted c enters p enters_is entries_is room_is marked =
    let shared = c.args.shared.now in
    let m = c.args.request.now in
    let o = c.args.observers.now in
    let at_once = sym c.hold.ensures.seconds ∙ c.in_default.is in
    let answer = (prompt_is shared m c.requires.unhanded c.fill_plan-index.new.plan c.fill_plan-index.ensures.answer
    at_once).1 in
    let others : List ObserverValue = without_entry m.token o.entries in
    let forgotten : c.remove_token.new.self.entries ≡ others =
    rw c.token-2.ensures at c.remove_token.ensures.entries in
    let asks = c.asks_entry.ensures ∙ ap asks_entry c.watch.ensures ∙ ap (λ (a : Answer). asks_entry a.watch) answer in
    let observed : c.if-asks_entry.observes ≡ is_observed shared o.room others m = elim c.if-asks_entry.branch [
      | then-asks_entry w ↦ cc (
        asks,
        not-not (nat_lt (length others) o.room),
        w.if-asks_entry.true,
        rw (forgotten, c.remove_token.ensures.room) at w.is_full.ensures,
        w.observes-is,
      )
      | else-asks_entry w ↦ cc (asks, w.if-asks_entry.false, w.observes-is)
    ] in
    let marked_before = c.remove_token.ensures.marks (changed_mark shared) c.requires.marked in
    prompt_answered shared m c.requires.unhanded c.fill_plan-index.new.plan c.fill_plan-index.ensures.answer at_once
    c.args.link.now o c.remove_token.new.self p c.if-asks_entry.observes enters c.respond-reply.result
    c.respond-reply.new.link (sym c.changes.ensures ∙ c.if-changes.false) forgotten c.remove_token.ensures.room
    marked_before observed enters_is (rw c.token-3.ensures at c.respond-reply.ensures.reply)
    (rw c.token-3.ensures at c.respond-reply.ensures.after) entries_is room_is (marked marked_before)

pub returns-then-is_whole : goal.returns-then-is_whole
returns-then-is_whole c =
    let e = c.add_observer.ensures in
    assumption (prompted (goal.at.returns-then-is_whole c).After-respond-reply true c.add_observer.new.observers
    (ap (λ (b : Bool). b && is_whole c.respond-reply.result) c.if-observes.true ∙ sym c.is_whole.ensures
    ∙ c.if-is_whole.true) (ap (λ (o : ObserversValue). o.entries) e.value)
    (ap (λ (o : ObserversValue). o.room) e.value) e.marked)

pub returns-else-observes : goal.returns-else-observes
returns-else-observes c =
    let misses : (c.if-asks_entry.observes && is_whole c.respond-reply.result) ≡ false = elim c.else-observes.branch [
      | else-observes-via-then-observes+else-is_whole w ↦
          ap (λ (b : Bool). b && is_whole c.respond-reply.result) w.if-observes.true
          ∙ sym w.is_whole.ensures ∙ w.if-is_whole.false
      | else-observes-via-else-observes w ↦ ap (λ (b : Bool). b && is_whole c.respond-reply.result) w.if-observes.false
    ] in
    assumption (prompted (goal.at.returns-else-observes c).After-respond-reply false c.remove_token.new.self misses
    refl refl (λ marked. marked))

-- ---- a change for which allocation failed, and one that was applied

pub returns-in_err-changed-clause-put : goal.returns-in_err-changed-clause-put
returns-in_err-changed-clause-put c =
    let prompt = prompt_is c.args.shared.now c.args.request.now c.requires.unhanded c.fill_plan-index.new.plan
    c.fill_plan-index.ensures.answer (sym c.hold.ensures.seconds ∙ c.in_default.is) in
    on_any_fault c.from_residual.result _
    (rw (c.into_change-planned.ensures, prompt.1) at c.in_err-changed.ensures.put)

pub returns-then-changes : goal.returns-then-changes
returns-then-changes c =
    let planned = c.into_change-planned.ensures in
    let does = sym c.changes.ensures ∙ c.if-changes.true in
    let e = c.in_ok-changed.ensures in
    assumption (change_answered c.args.shared.now c.args.request.now c.requires.unhanded c.fill_plan-index.new.plan
    c.fill_plan-index.ensures.answer (sym c.hold.ensures.seconds ∙ c.in_default.is) c.args.link.now
    c.args.observers.now c.answer_change.new.observers c.into_change-planned.result _ _ _ does
    (ap (λ (a : Answer). a.change) planned)
    (ap (λ (a : Answer). a.response) planned ∙ sym (c.fill_plan-index.ensures.plain does))
    e.changed (rw c.token.ensures at e.link) (rw c.token.ensures at e.entries) e.room e.marked e.shared)
