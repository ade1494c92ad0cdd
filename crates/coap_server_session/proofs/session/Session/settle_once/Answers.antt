use Rattle.std.proofs.Common.{refl, sym, ap, ◌∙◌}
use Rattle.coap_server_session.specs.Prelude.{MarkedSession, session_ready, session_settled_once, session_value}
use Rattle.coap_server_session.proofs.values.MarkLemmas.{left_marked_by}
use Rattle.coap_server_session.proofs.values.SettleLemmas.{stays_once, settled_unready, found_ready}
use Rattle.coap_server_session.proofs.values.SessionLemmas.{ready_is, given_up, sent_once}
use Rattle.coap_server_session.proofs.session.Session.settle_once.Goals as goal
use Rattle.coap_model.proofs.OptionLemmas.{there_is_none}

pub returns-then-not-ready : goal.returns-then-not-ready
returns-then-not-ready c =
    let shared = c.args.shared.now in
    let v = c.args.self.now.session in
    let unready = ap (λ (m : MarkedSession). session_ready m.session) (sym c.self.view_is)
    ∙ ready_is c.self.inside.link c.ready.ensures ∙ c.if-not-ready.true in
    let settled = settled_unready shared v unready in
    record {
      after = sym (stays_once shared v settled);
      found = rw (settled.0, settled.1) refl;
      marked = c.requires;
      split = refl;
    }

-- The pending entry that was due first was sent.
pub invariant_of-self : goal.invariant_of-self
invariant_of-self c =
    let sent = sent_once c.args.shared.now c.self.inside
    (ready_is c.self.inside.link c.ready.ensures ∙ c.if-not-ready.false)
    (sym c.send_due.ensures.found ∙ c.if-send_due.true) c.send_due.ensures.sent in
    given_up c.self.inside.observers c.self.invariant sent.sizes c.self.invariant.framer refl refl
    c.discard_if_closed.ensures.framer c.discard_if_closed.ensures.observers

pub returns-then-send_due : goal.returns-then-send_due
returns-then-send_due c =
    let shared = c.args.shared.now in
    let s = c.self.inside in
    let sent = sent_once shared s (ready_is s.link c.ready.ensures ∙ c.if-not-ready.false)
    (sym c.send_due.ensures.found ∙ c.if-send_due.true) c.send_due.ensures.sent in
    rw (← c.self.view_is, c.discard_if_closed.ensures.framer, c.discard_if_closed.ensures.observers)
    (record {
      after = sent.after_is;
      found = sent.found_is;
      marked = left_marked_by shared c.send_due.new.link s.observers _ refl (rw (← c.self.view_is) at c.requires);
      split = refl;
    })

pub notify_once-requires-clause-marked : goal.notify_once-requires-clause-marked
notify_once-requires-clause-marked c = rw (← c.self.view_is) at c.requires

-- No pending entry is due.
pub returns : goal.returns
unfolding session_settled_once
returns c =
    let s = c.self.inside in
    let quiet = there_is_none _ (sym c.send_due.ensures.found ∙ c.if-send_due.false) in
    let none = (found_ready c.args.shared.now (session_value s)
    (ready_is s.link c.ready.ensures ∙ c.if-not-ready.false)).0 ∙ quiet in
    let e = rw (c.send_due.ensures.silent quiet) at c.notify_once.ensures in
    rw (← c.self.view_is, none) (record { after = e.after; found = e.found; marked = e.marked; split = e.split })
