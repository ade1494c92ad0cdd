use Rattle.std.proofs.Common.{◌≡◌, Ok, true, arith, refl, sym, ap, ◌∙◌}
use Rattle.coap_frame.proofs.GivenLaws.{unread_allowed}
use Rattle.coap_frame.proofs.FramingLemmas.{framing_is_framer, unread_is_framer}
use Rattle.coap_conn.proofs.LinkLemmas.{stays_so}
use Rattle.coap_server_session.specs.Prelude.{AFrame, framing_of, FramerValue, framer_after, unread_after, taken_of}
use Rattle.coap_server_session.specs.Prelude.{finding_laid_out, MarkedSession, session_takes, session_value, sizes_of}
use Rattle.coap_server_session.specs.Prelude.{takes_messages}
use Rattle.coap_server_session.proofs.values.SessionLemmas.{taken_session, frame_takes_some, put_refused, kept_but_last}
use Rattle.coap_server_session.proofs.values.SplitLemmas.{completed_shown}
use Rattle.coap_server_session.proofs.session.Session.take.Goals.{In-Ok-Some, After-unread}
use Rattle.coap_server_session.proofs.session.Session.take.Goals as goal

-- ---- the invariant

pub invariant_of-self-in-Err : goal.invariant_of-self-in-Err
invariant_of-self-in-Err c =
    let l = c.self.inside.link in
    taken_session c.args.piece.now c.self.inside.observers c.self.invariant c.next_frame-framed.follows.holds-at-none
    (ap sizes_of c.reject-in-Err.ensures.after ∙ stays_so sizes_of (takes_messages l.phase) l _ refl) refl
    c.discard_if_closed-in-Err.ensures.framer c.discard_if_closed-in-Err.ensures.observers

pub invariant_of-self-in-Err-parse : goal.invariant_of-self-in-Err-parse
invariant_of-self-in-Err-parse c =
    let l = c.self.inside.link in
    taken_session c.args.piece.now c.self.inside.observers c.self.invariant c.next_frame-framed.follows.holds-at-none
    (ap sizes_of c.reject.ensures.after ∙ stays_so sizes_of (takes_messages l.phase) l _ refl) refl
    c.discard_if_closed.ensures.framer c.discard_if_closed.ensures.observers

pub invariant_of-self-in-Ok-handle : goal.invariant_of-self-in-Ok-handle
invariant_of-self-in-Ok-handle c =
    taken_session c.args.piece.now c.handle.new.observers c.self.invariant c.next_frame-framed.follows.holds-at-none
    c.in-Ok-handle.ensures.sizes c.in-Ok-handle.ensures.room c.discard_if_closed-in-Ok-handle.ensures.framer
    c.discard_if_closed-in-Ok-handle.ensures.observers

-- ---- a message

-- The framer found a frame.
frame_found : (c : In-Ok-Some)
    → (framing_of c.self.inside.framer c.args.piece.now).finding ≡ AFrame c.in-Ok-Some.frame.bytes.now
frame_found c =
    sym c.next_frame-framed.ensures.framed.what ∙ sym c.laid_out.ensures ∙ ap finding_laid_out c.in-Ok-Some.is
    ∙ ap (λ o. finding_laid_out (Ok o)) c.in-Ok-Some.field-0-is

-- The connection accepts bytes.
takes_bytes : (c : In-Ok-Some) → session_takes (session_value c.self.inside) ≡ true
takes_bytes c =
    ap (λ (m : MarkedSession). session_takes m.session) c.self.view_is ∙ sym c.takes.ensures ∙ c.if-not-takes.false

pub handle-requires-clause-marked : goal.handle-requires-clause-marked
handle-requires-clause-marked c = rw (← c.self.view_is) at c.requires

pub returns-in-Err-parse-clause-frame : goal.returns-in-Err-parse-clause-frame
returns-in-Err-parse-clause-frame c =
    let at = (goal.at.returns-in-Err-parse-clause-frame c).In-Ok-Some in
    rw (← c.self.view_is, c.without_message-in-Err-parse.ensures, c.next_frame-framed.ensures.framed.taken)
    (completed_shown c.args.piece.now c.reject.new.self c.self.invariant (takes_bytes at) (frame_found at)
    c.next_frame-framed.follows.holds-at-none c.discard_if_closed.ensures.framer)

pub returns-in-Ok-handle-clause-frame : goal.returns-in-Ok-handle-clause-frame
returns-in-Ok-handle-clause-frame c =
    let at = (goal.at.returns-in-Ok-handle-clause-frame c).In-Ok-Some in
    rw (← c.self.view_is, c.next_frame-framed.ensures.framed.taken)
    (completed_shown c.args.piece.now c.handle.new.link c.self.invariant (takes_bytes at) (frame_found at)
    c.next_frame-framed.follows.holds-at-none c.discard_if_closed-in-Ok-handle.ensures.framer)

-- ---- a message whose representation could not be stored

pub unread-requires : goal.unread-requires
unread-requires c =
    rw (c.next_frame-framed.follows.holds-at-none, c.next_frame-framed.ensures.framed.taken)
    (unread_allowed c.self.inside.framer c.args.piece.now c.in-Ok-Some.frame.bytes.now c.self.invariant.framer
    (frame_found (goal.at.unread-requires c).In-Ok-Some))

pub overflow_sub-result : goal.overflow_sub-result
overflow_sub-result c =
    let some = frame_takes_some c.args.piece.now _ c.self.invariant
    (frame_found (goal.at.overflow_sub-result c).In-Ok-Some) in
    omega (arith, some, c.next_frame-framed.ensures.framed.taken)

-- The frame was given back to the framer without its last byte.
taken_back : (c : After-unread) → c.unread.new.self ≡ unread_after c.self.inside.framer c.args.piece.now
taken_back c =
    rw (c.next_frame-framed.follows.holds-at-none, c.next_frame-framed.ensures.framed.taken) at c.unread.ensures

pub invariant_of-self-in-Err-handle : goal.invariant_of-self-in-Err-handle
invariant_of-self-in-Err-handle c =
    let f = c.self.inside.framer in
    let at = goal.at.invariant_of-self-in-Err-handle c in
    let back = taken_back at.After-unread in
    let was = c.self.invariant in
    rw (c.in-Err-handle.ensures.silent, c.in-Err-handle.ensures.kept) (record {
      ranges = was.ranges;
      greatest = ap (λ (f : FramerValue). f.max) back ∙ was.greatest;
      framer = rw back (unread_is_framer (framer_after f c.args.piece.now) (taken_of f c.args.piece.now)
          (framing_is_framer f c.args.piece.now was.framer)
          (unread_allowed f c.args.piece.now c.in-Ok-Some.frame.bytes.now was.framer (frame_found at.In-Ok-Some)));
      room = was.room;
      open_only = was.open_only;
    })

pub returns-in-Err-handle-clause-refused : goal.returns-in-Err-handle-clause-refused
returns-in-Err-handle-clause-refused c =
    let at = (goal.at.returns-in-Err-handle-clause-refused c).In-Ok-Some in
    rw (← c.self.view_is, c.next_frame-framed.ensures.framed.taken)
    (put_refused c.args.piece.now _ c.self.invariant (frame_found at) c.args.shared.now c.in-Ok.message
    (takes_bytes at) (sym c.in-Ok.ensures) c.in-Err-handle.ensures.put)

pub returns-in-Err-handle-clause-kept : goal.returns-in-Err-handle-clause-kept
returns-in-Err-handle-clause-kept c =
    let at = goal.at.returns-in-Err-handle-clause-kept c in
    rw (
      c.in-Err-handle.ensures.silent,
      c.in-Err-handle.ensures.kept,
      taken_back at.After-unread,
      c.next_frame-framed.ensures.framed.taken,
      ← c.self.view_is,
    )
    (kept_but_last c.args.piece.now _ c.self.invariant (frame_found at.In-Ok-Some) c.args.shared.now
    (takes_bytes at.In-Ok-Some))
