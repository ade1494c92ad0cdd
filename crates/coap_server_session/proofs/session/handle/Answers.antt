use Rattle.std.proofs.Common.{[], ◌≡◌, true, false, refl, sym, ap, ◌∙◌, List, ℕ}
use Rattle.coap_store.specs.Answer as answer
use Rattle.coap_server_session.specs.Prelude.{is_request, SessionValue, sizes_of, shared_changed, asks_this, answer_on}
use Rattle.coap_server_session.specs.Prelude.{is_handed_over, change_hash, takes_messages}
use Rattle.coap_conn.proofs.LinkLemmas.{stays_so}
use Rattle.coap_server_session.proofs.values.SessionLemmas.{on_request, no_request_reported, message_handled}
use Rattle.coap_server_session.specs.declared.take_outcome.RequestEffect.{RequestEffect}
use Rattle.coap_server_session.proofs.session.handle.Goals as goal
use Rattle.std.proofs.lemmas.Bool.{cond-false}

pub returns-in-Request-clause-after : goal.returns-in-Request-clause-after
returns-in-Request-clause-after c =
    let v : SessionValue = record { frame = []; link = c.args.link.now; observers = c.args.observers.now.entries } in
    on_request c.answer.result c.args.shared.now v c.args.message.now c.on.new.self c.answer.new.link
    c.args.observers.now c.answer.new.observers
    (ap is_request (sym c.in-Request.ensures.verdict)) c.in-Request.ensures.after c.requires.room refl
    (rw c.keep_moment.ensures at c.answer.ensures.link) (rw c.keep_moment.ensures at c.answer.ensures.entries)

pub returns-in_default : goal.returns-in_default
returns-in_default c =
    let shared = c.args.shared.now in
    let link = c.args.link.now in
    let m = c.args.message.now in
    let other = ap is_request (sym c.on.ensures.verdict) ∙ no_request_reported c.on.result c.in_default.not-Request in
    let same = cond-false (asks_this link m) (answer_on shared m).change answer.Nothing other in
    let unhanded : is_handed_over shared link m ≡ false = rw other refl in
    assumption (
      λ (frame : List ℕ). message_handled shared
          (record { frame = frame; link = link; observers = c.args.observers.now.entries }) m
          c.on.new.self other c.on.ensures.after,
      ap sizes_of c.on.ensures.after ∙ stays_so sizes_of (takes_messages link.phase) link _ refl,
      c.requires.marked,
      ap (λ (e : RequestEffect). e.changed) c.none.ensures ∙ ap change_hash (sym same),
      ap (λ (e : RequestEffect). e.handed) c.none.ensures ∙ sym unhanded,
      λ (_ : c.none.result.handed ≡ true). ap (λ (e : RequestEffect). e.changed) c.none.ensures,
      ap (shared_changed shared) (sym same),
    )
