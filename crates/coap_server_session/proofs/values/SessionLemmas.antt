-- The invariant of a session, and its values after each call.
use Rattle.std.proofs.Common.{◌≡◌, ℕ, ◌-◌, ◌≤◌, Bool, true, false, List, [], length, take, Some, None, Result, Ok, Err}
use Rattle.std.proofs.Common.{refl, sym, ap, ◌∙◌, arith, inl, inr, ◌||◌, slice_get, nat_le, is_some, OnOk, IsTrue}
use Rattle.std.proofs.lemmas.Bool.{cond_both}
use Rattle.std.proofs.lemmas.List.{length-take, length-take-le, take-take}
use Rattle.coap_wire.proofs.StreamSteps.{whole_itself}
use Rattle.coap_frame.proofs.RaiseLemmas.{raise_allowed, raised_is_framer}
use Rattle.coap_frame.proofs.FramingLemmas.{empty_framer, framing_is_framer}
use Rattle.coap_frame.proofs.FrontLaws.{frame_first}
use Rattle.coap_frame.proofs.GivenLaws.{taken_within, frame_taken, takes_a_byte, unread_one_less, unread_nothing}
use Rattle.coap_conn.specs.declared.phase.Verdict.TheVariants as reported
use Rattle.coap_conn.specs.Calls as call
use Rattle.coap_conn.proofs.LinkLemmas.{stays_so}
use Rattle.coap_model.proofs.OptionLemmas.{there_is, there_at}
use Rattle.coap_server_session.specs.Prelude.{Message, message_of, FramerValue, IsFramer, AFrame, framing, framing_of}
use Rattle.coap_server_session.specs.Prelude.{framer_after, without_last, taken_of, unread_after, raise_refusal}
use Rattle.coap_server_session.specs.Prelude.{with_size, Verdict, verdict_value, PendingEntryValue, Answer, Pong}
use Rattle.coap_server_session.specs.Prelude.{first_due, fits, LinkValue, IsReady, free_in, limit_in, own_csm}
use Rattle.coap_server_session.specs.Prelude.{link_after, is_open, takes_messages, answers, is_request, IsPut}
use Rattle.coap_server_session.specs.Prelude.{ServerState, Inside, ObserverValue, ObserversValue, SessionValue}
use Rattle.coap_server_session.specs.Prelude.{is_stale, session_ready, session_takes, sizes_of, session_with}
use Rattle.coap_server_session.specs.Prelude.{without_entry, delay_on, delay_in, asks_this, session_handled, change_by}
use Rattle.coap_server_session.specs.Prelude.{taking_read, taking, RefusesPiece, notification_on, session_notified}
use Rattle.coap_server_session.specs.Prelude.{next_pending_in, next_stale, link_sent, session_settled_once, first_index}
use Rattle.coap_server_session.specs.Prelude.{link_replied, entries_replied, entries_notified, framer_on, IsSession}
use Rattle.coap_server_session.specs.Prelude.{session_value, observers_left, frame_refusal, OnMessage, FormatFault}
use Rattle.coap_server_session.proofs.values.EntryLemmas.{is_first}
use Rattle.coap_server_session.proofs.values.SettleLemmas.{found_ready}

-- ---- the state that a stop discards

-- A response of the application keeps the sizes of the link.
pub sizes_responded : (l new : LinkValue) (read : Result Message FormatFault) → frame_refusal l read ≡ None
    → OnMessage read (λ m. new ≡ link_after l (call.Respond m)) → sizes_of new ≡ sizes_of l
sizes_responded l new (Ok m) none is = rw is (stays_so sizes_of _ _ _ refl)
sizes_responded l new (Err e) none is = absurd cc

-- A framer without the bytes of an unfinished frame.
emptied : (f : FramerValue) → IsFramer f → IsFramer (record f { kept = [] })
emptied f is = record {
  low = is.low;
  high = is.high;
  countable = is.countable;
  unfinished = (empty_framer f.max [] f.copied is.low is.high is.countable refl).unfinished;
  whole = elim is.whole [ inl none ↦ inl none | inr both ↦ inr (both.0, refl) ];
}

-- The invariant holds after fields were changed and the state that a stop discards was removed.
pub given_up : {s : Inside} {l : LinkValue} {f g : FramerValue} {p : ObserversValue} (o : ObserversValue) → IsSession s
    → sizes_of l ≡ sizes_of s.link → IsFramer f → f.max ≡ s.framer.max → o.room ≡ s.observers.room
    → g ≡ framer_on l f → p ≡ observers_left l o → IsSession (record { framer = g; link = l; observers = p })
given_up {l = l} {f = f} o is sizes framer max room g_is p_is =
    rw (g_is, p_is) (record {
      ranges = rw (ap (λ (both : _ × ℕ). both.0) sizes) is.ranges;
      greatest = max ∙ is.greatest ∙ ap (λ (both : _ × ℕ). both.1) (sym sizes);
      framer = cond_both (takes_messages l.phase) f.kept [] (λ bytes. IsFramer (record f { kept = bytes }))
          (λ _. framer) (λ _. emptied f framer);
      room = rw (ap (λ (both : _ × ℕ). both.0) sizes) (room ∙ is.room);
      open_only = grind arith;
    })

-- The same after a session accepted bytes.
pub taken_session : {s : Inside} {l : LinkValue} {f g : FramerValue} {p : ObserversValue} (piece : List ℕ)
    (o : ObserversValue) → IsSession s → f ≡ framer_after s.framer piece → sizes_of l ≡ sizes_of s.link
    → o.room ≡ s.observers.room → g ≡ framer_on l f → p ≡ observers_left l o
    → IsSession (record { framer = g; link = l; observers = p })
taken_session {s = s} piece o is f_is sizes room g_is =
    given_up o is sizes (framing_is_framer s.framer piece is.framer) refl room (rw f_is at g_is)

-- The invariant holds after a larger message size was announced.
pub announced_session : {s : Inside} {size : ℕ} {f : FramerValue} {l : LinkValue} → IsSession s
    → is_open s.link.phase ≡ true → fits (limit_in s.link) (own_csm size) ≡ true
    → raise_refusal s.framer.max size ≡ None
    → f ≡ with_size s.framer size → l ≡ link_after s.link (call.Announce size)
    → IsSession (record { framer = f; link = l; observers = s.observers })
announced_session {s = s} {size = size} is opened fit allowed f_is l_is =
    let larger = raise_allowed s.framer.max size allowed in
    rw (l_is, opened, fit, f_is) (record {
      ranges = is.ranges;
      greatest = refl;
      framer = raised_is_framer s.framer size is.framer larger.0 larger.1;
      room = is.room;
      open_only = is.open_only;
    })

-- ---- a message

pub on_request : {T E : Type 0} (r : Result T E) (shared : ServerState) (v : SessionValue) (m : Message)
    (l after : LinkValue) (o p : ObserversValue) → asks_this v.link m ≡ true → l ≡ link_after v.link (call.Handle m)
    → o.room ≡ v.link.limits.observers → o.entries ≡ v.observers
    → OnOk r (after ≡ link_replied shared l o.room (without_entry m.token o.entries) m (delay_in l (delay_on shared m)))
    → OnOk r
    (p.entries ≡ entries_replied shared l o.room (without_entry m.token o.entries) m (delay_in l (delay_on shared m)))
    → OnOk r ((frame : List ℕ) → session_with [] after p.entries
    ≡ session_handled shared (record v { frame = frame }) m)
unfolding session_handled
on_request (Ok x) shared v m l after o p asks is room entries link_is p_is = λ frame.
    let rooms : o.room ≡ l.limits.observers =
    rw is (room ∙ ap (λ (both : _ × ℕ). both.0.observers)
    (sym (stays_so sizes_of (takes_messages v.link.phase) v.link _ refl))) in
    rw (asks, ← is, link_is, p_is, rooms, entries) (grind arith)
on_request (Err e) shared v m l after o p asks is room entries link_is p_is = tt

-- A verdict other than `Request` is no request.
pub no_request_reported : (what : Verdict) → (what ≡ reported.Request → ⊥) → is_request (verdict_value what) ≡ false
no_request_reported reported.Request other = absurd (other refl)
no_request_reported what other = refl

pub message_handled : (shared : ServerState) (v : SessionValue) (m : Message) (l : LinkValue) → asks_this v.link m
    ≡ false
    → l ≡ link_after v.link (call.Handle m) → session_with [] l v.observers ≡ session_handled shared v m
unfolding session_handled
message_handled shared v m l other is = cc

-- ---- an input slice

-- An input slice in which the framer found a frame.
module _ {s : Inside} (piece frame : List ℕ) (is : IsSession s)
    (found : (framing_of s.framer piece).finding ≡ AFrame frame) where
  pub frame_takes_some : 1 ≤ (framing_of s.framer piece).taken
  frame_takes_some =
      let count = (framing_of s.framer piece).taken in
      let whole = frame_first s.framer.max s.framer.kept piece frame found in
      let bytes = frame_taken s.framer.max s.framer.kept piece frame is.framer.unfinished found in
      let some = takes_a_byte s.framer.max s.framer.kept (take count piece) frame is.framer.unfinished
      (whole_itself s.framer.max _ frame whole.0 whole.1) bytes in
      omega (arith, some, length-take count piece)

  pub put_refused : (shared : ServerState) (m : Message) → session_takes (session_value s) ≡ true
      → message_of frame ≡ Ok m → IsPut (change_by shared s.link m)
      → RefusesPiece shared (session_value s) piece ((framing_of s.framer piece).taken - 1)
  unfolding taking
  put_refused shared m takes read put =
      let count = (framing_of s.framer piece).taken in
      let whole : taking shared (session_value s) piece ≡ taking_read shared (session_value s) count (Ok m) =
      cc (takes, is.greatest, found, read) in
      record { takes = takes; last = rw whole (omega (arith, frame_takes_some)); stores = rw whole put }

  pub kept_but_last : (shared : ServerState) → session_takes (session_value s) ≡ true
      → record (session_value s) { frame = (unread_after s.framer piece).kept }
      ≡ (taking shared (session_value s) (take ((framing_of s.framer piece).taken - 1) piece)).session
  unfolding framing taking
  kept_but_last shared takes =
      let count = (framing_of s.framer piece).taken in
      let within : count ≤ length piece = taken_within s.framer.max s.framer.kept piece is.framer.unfinished in
      let cut : without_last (taken_of s.framer piece) ≡ take (count - 1) piece =
      rw (length-take-le count piece within) (take-take (count - 1) count piece (omega arith)) in
      let kept = ap (λ (f : FramerValue). f.kept) (unread_one_less s.framer piece frame is.framer found) in
      cc (takes, is.greatest, cut, kept, unread_nothing s.framer piece frame is.framer found)

-- ---- settling

-- The code's test for room agrees with the definition.
pub ready_is : (l : LinkValue) {b : Bool} → (IsTrue b → IsReady l) × (IsReady l → IsTrue b)
    → nat_le l.limits.max_sent (free_in l) ≡ b
ready_is l same = grind arith

-- States that one iteration of settling found something, and left this link and these observers.
pub record IsSettledOnce (s : Inside) (l : LinkValue) (os : List ObserverValue) (found : Bool) (after : SessionValue)
    : Type 0 where
  pub sizes : sizes_of l ≡ sizes_of s.link
  pub found_is : true ≡ found
  pub after_is : session_with s.framer.kept l os ≡ after

-- The first stale observer, at this index, was notified.
pub notified_once : {index : ℕ} {l : LinkValue} {os : List ObserverValue} (shared : ServerState) (s : Inside)
    → session_ready (session_value s) ≡ true → first_index (is_stale shared) s.observers.entries ≡ Some index
    → ((e : ObserverValue) → slice_get s.observers.entries index ≡ Some e
    → l ≡ link_after s.link (call.Reply (notification_on shared e)))
    → ((e : ObserverValue) → slice_get s.observers.entries index ≡ Some e
    → os ≡ entries_notified shared s.link s.observers.entries e)
    → IsSettledOnce s l os (is_some (next_stale shared (session_value s)))
    (session_notified shared (session_value s) (next_stale shared (session_value s)))
notified_once {index = index} shared s ready first link entries =
    let place = is_first (is_stale shared) s.observers.entries index first in
    let there = there_at s.observers.entries index place.within in
    let next : next_stale shared (session_value s) ≡ Some there.0 =
    (found_ready shared (session_value s) ready).1 ∙ place.found ∙ there.1 in
    rw (next, entries there.0 there.1, link there.0 there.1) (record {
      sizes = stays_so sizes_of (answers s.link.phase) s.link _ refl;
      found_is = refl;
      after_is = refl;
    })

sent_sizes : (l : LinkValue) (now : ℕ) (e : PendingEntryValue) → sizes_of (link_sent l now e) ≡ sizes_of l
sent_sizes l now (Answer by token moment) = stays_so sizes_of _ (link_after l (call.Due now)) _ refl
sent_sizes l now (Pong token) = refl

-- The first due entry was sent.
pub sent_once : {l : LinkValue} (shared : ServerState) (s : Inside) → session_ready (session_value s) ≡ true
    → is_some (first_due shared.now s.link.pending) ≡ true
    → ((e : PendingEntryValue) → first_due shared.now s.link.pending ≡ Some e → l ≡ link_sent s.link shared.now e)
    → IsSettledOnce s l s.observers.entries
    (is_some (next_pending_in shared.now (session_value s)) || is_some (next_stale shared (session_value s)))
    (session_settled_once shared (session_value s))
unfolding session_settled_once
sent_once shared s ready some link =
    let due = there_is (first_due shared.now s.link.pending) some in
    let next : next_pending_in shared.now (session_value s) ≡ Some due.0 =
    (found_ready shared (session_value s) ready).0 ∙ due.1 in
    rw (next, link due.0 due.1) (record {
      sizes = sent_sizes s.link shared.now due.0;
      found_is = refl;
      after_is = refl;
    })
