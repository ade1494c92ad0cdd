use Rattle.std.proofs.Common.{refl, ◌∙◌}
use Rattle.std.proofs.lemmas.Bool.{le-leb}
use Rattle.coap_server_session.specs.Prelude.{free_in, is_stale, session_value}
use Rattle.coap_server_session.proofs.values.EntryLemmas.{none_at_index}
use Rattle.coap_server_session.proofs.values.MarkLemmas.{left_marked_by, marked_is_stale, unmarked_is_reported}
use Rattle.coap_server_session.proofs.values.SettleLemmas.{found_ready}
use Rattle.coap_server_session.proofs.values.SessionLemmas.{given_up, notified_once}
use Rattle.coap_server_session.proofs.session.Session.notify_once.Goals as goal

pub returns-in_default : goal.returns-in_default
returns-in_default c =
    let shared = c.args.shared.now in
    let s = c.self.inside in
    let l = c.args.self.now.session.link in
    let ready = rw (← c.self.view_is) at (le-leb l.limits.max_sent (free_in l) c.requires.ready) in
    let marked = rw (← c.self.view_is) at c.requires.marked in
    let none = none_at_index (is_stale shared) s.observers.entries
    (unmarked_is_reported shared s.observers.entries s.observers.marks marked c.in_default.ensures.none) in
    let silent = (found_ready shared (session_value s) ready).1 ∙ none in
    rw (c.first_changed.ensures.same, ← c.self.view_is, silent)
    (record { after = refl; found = refl; marked = marked; split = refl })

pub notify-requires-clause-first : goal.notify-requires-clause-first
notify-requires-clause-first c =
    let os = c.self.inside.observers in
    rw c.first_changed.ensures.same
    (marked_is_stale c.args.shared.now os.entries os.marks _ (rw (← c.self.view_is) at c.requires.marked)
    c.in-Some.ensures.some)

pub notify-requires-clause-marked : goal.notify-requires-clause-marked
notify-requires-clause-marked c =
    rw c.first_changed.ensures.same (rw (← c.self.view_is) at c.requires.marked)

pub invariant_of-self : goal.invariant_of-self
invariant_of-self c = rw c.first_changed.ensures.same (assumption c.self.invariant)

pub invariant_of-self-2 : goal.invariant_of-self-2
invariant_of-self-2 c =
    let shared = c.args.shared.now in
    let s = c.self.inside in
    let l = c.args.self.now.session.link in
    let ready = rw (← c.self.view_is) at (le-leb l.limits.max_sent (free_in l) c.requires.ready) in
    let marked = rw (← c.self.view_is) at c.requires.marked in
    let first = marked_is_stale shared s.observers.entries s.observers.marks _ marked c.in-Some.ensures.some in
    let e = rw c.first_changed.ensures.same at c.notify.ensures in
    given_up c.notify.new.observers c.self.invariant (notified_once shared s ready first.first e.link e.entries).sizes
    c.self.invariant.framer refl e.room c.discard_if_closed.ensures.framer c.discard_if_closed.ensures.observers

pub returns : goal.returns
returns c =
    let shared = c.args.shared.now in
    let s = c.self.inside in
    let l = c.args.self.now.session.link in
    let ready = rw (← c.self.view_is) at (le-leb l.limits.max_sent (free_in l) c.requires.ready) in
    let marked = rw (← c.self.view_is) at c.requires.marked in
    let first = marked_is_stale shared s.observers.entries s.observers.marks _ marked c.in-Some.ensures.some in
    let e = rw c.first_changed.ensures.same at c.notify.ensures in
    let once = notified_once shared s ready first.first e.link e.entries in
    rw (← c.self.view_is, c.discard_if_closed.ensures.framer, c.discard_if_closed.ensures.observers)
    (record {
      after = once.after_is;
      found = once.found_is;
      marked = left_marked_by shared c.notify.new.link c.notify.new.observers _ refl c.notify.ensures.marked;
      split = refl;
    })
