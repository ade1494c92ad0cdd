use Rattle.std.proofs.Common.{refl, sym}
use Rattle.std.proofs.lemmas.Option.{slice_get_read}
use Rattle.coap_conn.specs.Prelude.{link_value}
use Rattle.coap_conn.specs.Calls as call
use Rattle.coap_conn.specs.declared.pending.PendingEntry.TheVariants as hold
use Rattle.coap_conn.proofs.LinkLemmas.{shows}
use Rattle.coap_conn.proofs.PendingLemmas.{first_at_index, answer_due, pong_due, pending_without, entry_at_index}
use Rattle.coap_conn.proofs.link.Link.due.Goals as goal

-- ---- a response is due

pub returns-in-Answer-clause-due : goal.returns-in-Answer-clause-due
returns-in-Answer-clause-due c =
    let first = rw c.deref.ensures.value at (sym c.in-Some.ensures.first) in
    let within = rw c.deref.ensures.value at c.in-Some.ensures.within in
    let taken = entry_at_index c.self.inside.pending.items c.in-Some.index
    (hold.Answer c.in-Answer.responder c.in-Answer.token c.in-Answer.moment)
    (slice_get_read c.self.inside.pending.items _ c.in-Some.index _ refl within c.in-Answer.ensures.value) in
    rw (c.due_response.ensures, ← c.self.view_is, first_at_index c.args.now _ c.in-Some.index _ first taken) refl

pub returns-in-Answer-clause-after : goal.returns-in-Answer-clause-after
returns-in-Answer-clause-after c =
    let first = rw c.deref.ensures.value at (sym c.in-Some.ensures.first) in
    let within = rw c.deref.ensures.value at c.in-Some.ensures.within in
    let taken = entry_at_index c.self.inside.pending.items c.in-Some.index
    (hold.Answer c.in-Answer.responder c.in-Answer.token c.in-Answer.moment)
    (slice_get_read c.self.inside.pending.items _ c.in-Some.index _ refl within c.in-Answer.ensures.value) in
    rw (c.in-Answer.ensures.items, pending_without, ← c.self.view_is)
    (answer_due (link_value c.self.inside) c.args.now c.in-Some.index _ _ _ first taken)

pub returns-in-Answer-clause-shows : goal.returns-in-Answer-clause-shows
returns-in-Answer-clause-shows c = shows c.args.self.now _ (call.Due c.args.now) tt (returns-in-Answer-clause-after c)

-- ---- a Pong is due

pub returns-in-Pong-clause-due : goal.returns-in-Pong-clause-due
returns-in-Pong-clause-due c =
    let first = rw c.deref.ensures.value at (sym c.in-Some.ensures.first) in
    let within = rw c.deref.ensures.value at c.in-Some.ensures.within in
    let taken = entry_at_index c.self.inside.pending.items c.in-Some.index (hold.Pong c.in-Pong.token)
    (slice_get_read c.self.inside.pending.items _ c.in-Some.index _ refl within c.in-Pong.ensures.value) in
    rw (← c.self.view_is, first_at_index c.args.now _ c.in-Some.index _ first taken) refl

pub returns-in-Pong-clause-after : goal.returns-in-Pong-clause-after
returns-in-Pong-clause-after c =
    let first = rw c.deref.ensures.value at (sym c.in-Some.ensures.first) in
    let within = rw c.deref.ensures.value at c.in-Some.ensures.within in
    let taken = entry_at_index c.self.inside.pending.items c.in-Some.index (hold.Pong c.in-Pong.token)
    (slice_get_read c.self.inside.pending.items _ c.in-Some.index _ refl within c.in-Pong.ensures.value) in
    rw (c.pong.ensures.after, c.of.ensures, c.in-Pong.ensures.items, pending_without, ← c.self.view_is)
    (pong_due (link_value c.self.inside) c.args.now c.in-Some.index c.in-Pong.token.items first taken)

pub returns-in-Pong-clause-shows : goal.returns-in-Pong-clause-shows
returns-in-Pong-clause-shows c = shows c.args.self.now _ (call.Due c.args.now) tt (returns-in-Pong-clause-after c)
