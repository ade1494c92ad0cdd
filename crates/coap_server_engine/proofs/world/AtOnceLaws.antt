-- A response of the application directly after the take that handed over its request has room.
use Rattle.std.proofs.Common.{◌≡◌, ◌≢◌, ◌⊎◌, ℕ, ◌<◌, ◌≤◌, true, false, List, [], ◌∷◌, ◌++◌, length, Some, None, Result}
use Rattle.std.proofs.Common.{Ok, Err, refl, sym, ◌∙◌, inl, inr, arith, IfSome, option_and_then, Option, zero, suc, ◌+◌}
use Rattle.std.proofs.Common.{ap, nat_le, if◌then◌else◌, Bool, filter, map, is_none, option_map, subst}
use Rattle.std.proofs.lemmas.Bool.{cases_Bool, and_parts, le-leb, leb-true, cases_lt}
use Rattle.std.proofs.lemmas.List.{length-take-le, append-nil, length-append}
use lib.Pointwise.{bytes_decides}
use Rattle.coap_wire.specs.Forms.{greatest_token}
use Rattle.coap_wire.specs.Reading.{Head, head_at}
use Rattle.coap_wire.proofs.ReadingLaws.{message_again}
use Rattle.coap_wire.proofs.SpellingLaws.{spelling_spells}
use Rattle.coap_frame.specs.Framing.{Nothing}
use Rattle.coap_conn.specs.Fit.{fit, fitted, bare_response}
use Rattle.coap_conn.specs.Phases.{is_waiting, is_open}
use Rattle.coap_conn.specs.Reaction.{react, ConnectionState, send_as}
use Rattle.coap_conn.specs.Verdicts.{VerdictValue, is_request}
use Rattle.coap_conn.specs.Verdicts as verdict
use Rattle.coap_conn.specs.LinkValue.{bytes_of, limit_in, free_in, state_in, can_hold}
use Rattle.coap_conn.specs.PendingEntries.{PendingEntryValue, Answer, due_moment, pong_index, first_due, has_request}
use Rattle.coap_conn.specs.PendingEntries.{Pong, without_due}
use Rattle.coap_conn.specs.Responses.{is_plain_response, room_refusal}
use Rattle.coap_conn.specs.Calls.{link_after, state_due}
use Rattle.coap_conn.specs.Calls as call
use Rattle.coap_conn.specs.declared.pending.Responder.TheVariants.{Application, Engine}
use Rattle.coap_conn.specs.declared.phase.Phase.{Phase}
use Rattle.coap_conn.specs.declared.phase.Phase.TheVariants as phase
use Rattle.coap_conn.specs.declared.phase.RespondFault.TheVariants as fault
use Rattle.coap_conn.proofs.PendingLaws.{due_nothing, due_answer, due_alone}
use Rattle.coap_conn.proofs.RequestLemmas.{react_asks, request_stays}
use Rattle.coap_path.specs.Applications.{ApplicationsValue}
use Rattle.coap_store.specs.ApplicationRequests.{application_deadline}
use Rattle.coap_model.specs.world.Connections.{Delay, delay_or, moment_after, next_pending}
use Rattle.coap_model.proofs.OptionLemmas.{same_there, one_made}
use Rattle.coap_model.proofs.world.EntryLemmas.{all_append, all_filter, none_due, none_found, all_to, all_map}
use Rattle.coap_model.proofs.world.SideLaws.{nothing_due_first}
use Rattle.coap_server_session.specs.values.Sessions.{asks_this, session_ready, session_with, without_entry, delay_in}
use Rattle.coap_server_session.specs.values.Sessions.{delay_on, is_stale, session_max, change_by, ObserverValue}
use Rattle.coap_server_session.specs.values.Sessions.{session_settled_so, session_settled_once, session_settled_within}
use Rattle.coap_server_session.specs.values.Sessions.{session_notified, link_sent}
use Rattle.coap_server_session.proofs.values.AnsweringLemmas.{late_quiet}
use Rattle.coap_server_session.proofs.values.SettleLemmas.{found_ready, settled_quiet, settled_stays}
use Rattle.coap_server_engine.specs.Prelude.{Message, spelling, message_of, FormatFault, AFrame, FrameEventValue}
use Rattle.coap_server_engine.specs.Prelude.{framing, LinkValue, takes_messages, RespondFault, frame_refusal}
use Rattle.coap_server_engine.specs.Prelude.{response_refusal, shared_changed, ServerState, SessionValue, session_takes}
use Rattle.coap_server_engine.specs.Prelude.{session_handled, taking, taking_read, IsSettled, failure_with, is_handed}
use Rattle.coap_server_engine.specs.Prelude.{is_handed_over, handed, handed_read, handed_found, frame_message}
use Rattle.coap_server_engine.specs.Prelude.{handed_by, handed_frame, handed_on, session_of, ServerValue, Reason}
use Rattle.coap_server_engine.specs.Prelude.{AllByRecursion, session_settled, LimitValues, ConfigValues, Connection}
use Rattle.coap_server_engine.specs.Prelude.{World, Step, acted, side_of, AcceptedCall, world_after, ResponseFault}
use Rattle.coap_server_engine.specs.Prelude.{response_fault, session_becomes, settled_entry, server_settled}
use Rattle.coap_server_engine.specs.Prelude.{server_taken, AreSettled, new_world, after_steps, steps_of, server_of}
use Rattle.coap_server_engine.specs.Prelude.{Shows, responded_refusal, responded_refusal_on, response_for, server_shown}
use Rattle.coap_store.specs.Answer as store_change
use Rattle.std.proofs.lemmas.Bool.Decides.{nat_tests}
use Rattle.coap_conn.specs.declared.pending.Responder.{Responder}
use Rattle.coap_conn.specs.declared.phase.Reply.{Reply}
use Rattle.coap_model.specs.world.Fates.{is_of_application, ApplicationRequest, Fate, entry_of, has_stopped}
use Rattle.coap_model.specs.world.Fates.{new_request, requests_after, requests_responded, requests_due, requests_once}
use Rattle.coap_model.specs.world.Fates.{requests_within, requests_settled, requests_acted, requests_then, requests_by}
use Rattle.coap_model.specs.world.Fates.{requests_on, with_fate}
use Rattle.coap_server_session.proofs.values.TagLemmas.{all_remove}
use Rattle.coap_store.specs.Store.{StoreValue}
use Rattle.coap_model.specs.world.World as world
use Rattle.coap_model.proofs.world.FateLists.{waits, fate_all}
use Rattle.coap_model.proofs.world.FateKept.{requests_accounted}
use Rattle.coap_conn.proofs.AskingLaws.{none_where}
use Rattle.coap_model.specs.declared.answers.ResponseFault.TheVariants as responding
use Rattle.coap_model.proofs.world.AcrossLaws.{applications_stay}
use Rattle.coap_model.proofs.world.EndOfInputLaws.{world_stays, world_known, world_hears}
use Rattle.coap_server_engine.proofs.values.ServerLemmas.{Entries, all_are_settled}
use Rattle.coap_server_engine.proofs.world.ShowLaws.{server_after_settling, shared_shown, session_there}

-- ---- an entry that is due later

-- A request whose deadline is to come is not due.
later_entry : (now moment : ℕ) (token : List ℕ) → now < moment → due_moment now (Answer Application token moment) ≡ None
later_entry now moment token later = grind (arith, nat_tests)

-- If no Pong is first in the list, none is first after a request is appended.
no_pong_first : (pending : List PendingEntryValue) (token : List ℕ) (moment : ℕ) → pong_index pending ≡ None
    → pong_index (pending ++ Answer Application token moment ∷ []) ≡ None
no_pong_first pending token moment none = grind arith

-- If no entry is due, none is due after a request is appended whose deadline is to come.
none_due_more : (now moment : ℕ) (token : List ℕ) (pending : List PendingEntryValue) → now < moment
    → first_due now pending ≡ None → first_due now (pending ++ Answer Application token moment ∷ []) ≡ None
none_due_more now moment token pending later none =
    let nothing = (due_nothing now pending none).0 in
    nothing_due_first now _ (
      all_append (λ e. due_moment now e ≡ None) pending _ nothing.0
          (later_entry now moment token later, tt),
      no_pong_first pending token moment nothing.1,
    )

-- ---- room for a response

-- A response, as it is sent, is not larger than the limit.
sent_within : (limit : ℕ) (m less : Message) → length (bytes_of (fitted m less (fit limit m less))) ≤ limit
sent_within limit m less = grind (arith, nat_tests, append-nil {A = ℕ})

-- A queue with room for the largest message sent has room for any response.
room_for_any : (l : LinkValue) (m : Message) → l.limits.max_sent ≤ free_in l → room_refusal l m ≡ None
room_for_any l m room = grind (arith, nat_tests, room, sent_within (limit_in l) m (bare_response m))

-- The errors that remain with room: those of the message and of its token.
pub other_fault : (l : LinkValue) (read : Result Message FormatFault) (why : RespondFault)
    → l.limits.max_sent ≤ free_in l → frame_refusal l read ≡ Some why
    → (why ≡ fault.NotAResponse) ⊎ (why ≡ fault.NoSuchRequest)
unfolding response_refusal
other_fault l (Err e) why room is = inl (cc)
other_fault l (Ok m) why room is = let free = room_for_any l m room in grind arith

-- With room, a response with the token of a pending request is accepted.
pub accepted_with : (l : LinkValue) (m : Message) → l.limits.max_sent ≤ free_in l → has_request m.token l.pending ≡ true
    → is_plain_response m ≡ true → response_refusal l m ≡ None
unfolding response_refusal
accepted_with l m room has plain = rw (has, plain) (room_for_any l m room)

-- The last entry is pending.
pub requested_last : (token : List ℕ) (pending : List PendingEntryValue) (moment : ℕ)
    → has_request token (pending ++ Answer Application token moment ∷ []) ≡ true
requested_last token [] moment = rw ((bytes_decides token token).1 refl)
requested_last token (e ∷ pending) moment = grind (arith, requested_last token pending moment)

-- ---- 5.00 with the token of a message that was read

head_token : (s : List ℕ) (h : Head) → head_at s ≡ Ok h → length h.token ≤ greatest_token
unfolding head_at
head_token s h is = grind (arith, nat_tests, length-take-le {A = ℕ})

-- The token of a message that was read has at most 64 bytes.
token_small : (s : List ℕ) (m : Message) → message_of s ≡ Ok m → length m.token ≤ greatest_token
unfolding message_of
token_small s m is = grind (arith, head_token s)

-- The message 5.00 with this token has an encoding.
pub failure_read : (frame : List ℕ) (m : Message) → message_of frame ≡ Ok m
    → message_of (spelling (failure_with m.token)) ≡ Ok (failure_with m.token)
failure_read frame m reads =
    message_again _ _ (spelling_spells _
    (record { token = token_small frame m reads; ordered = tt; each = tt; body = omega arith }))

-- ---- the deadline

-- The delay of a request that is handed over is the deadline of the application.
delay_is_deadline : (deadline hold : Option ℕ) (seconds : ℕ)
    → delay_or deadline hold ≡ Some (record { by = Application; seconds = seconds }) → deadline ≡ Some seconds
delay_is_deadline deadline hold seconds is = grind arith

-- A deadline comes from an application.
deadline_some : (o : Option ApplicationsValue) (m : Message) (seconds : ℕ) → application_deadline o m ≡ Some seconds
    → (o ≢ None) × (IfSome o (λ a. 1 ≤ a.deadline) → 1 ≤ seconds)
unfolding application_deadline
deadline_some None m seconds is = absurd cc
deadline_some (Some a) m seconds is = ((λ none. cc), (λ some. grind (arith, some)))

-- ---- a message that is handed over

request_verdict : (verdict_is : VerdictValue) → is_request verdict_is ≡ true → verdict_is ≡ verdict.Request
request_verdict verdict_is is = grind arith

open_phase : (p : Phase) → takes_messages p ≡ true → is_waiting p ≡ false → is_open p ≡ true
open_phase p live begun = grind arith

-- The delay of such a message is that of the application, and the pending list has room.
handed_delay : (l : LinkValue) (o : Option Delay) → is_handed (delay_in l o) ≡ true
    → (seconds : ℕ) × (o ≡ Some (record { by = Application; seconds = seconds })) × (can_hold l ≡ true)
handed_delay l None is = absurd cc
handed_delay l (Some d) is = (d.seconds, grind arith, grind arith)

-- The connection after it: the request is pending until `moment`, and the observer with its token is removed.
abbrev pub with_request : SessionValue → Message → ℕ → SessionValue
with_request s m moment = record {
  frame = [];
  link = record s.link { pending = s.link.pending ++ Answer Application m.token moment ∷ [] };
  observers = without_entry m.token s.observers;
}

-- ---- a take that hands over a request

pub record HandsOver (shared : ServerState) (s : SessionValue) (piece : List ℕ) (m : Message) : Type 0 where
  pub takes : session_takes s ≡ true
  pub frame : List ℕ
  pub found : (framing (session_max s) s.frame piece).finding ≡ AFrame frame
  pub reads : message_of frame ≡ Ok m
  pub over : is_handed_over shared s.link m ≡ true

module _ (shared : ServerState) (s : SessionValue) (piece : List ℕ) (m : Message) where
  read_over : (frame : List ℕ) (r : Result Message FormatFault) → message_of frame ≡ r
      → option_and_then frame_message (handed_read shared s frame r) ≡ Some m
      → (message_of frame ≡ Ok m) × (is_handed_over shared s.link m ≡ true)
  read_over frame (Err e) reads is = absurd cc
  read_over frame (Ok n) reads is = elim (cases_Bool (is_handed_over shared s.link n)) [
    | inl over ↦
        let same = same_there n m (rw (over, reads) at is) in
        (rw (reads, same), rw same at over)
    | inr kept ↦ absurd (let none : ◌≡◌ {A = Option Message} None (Some m) = rw kept at is in cc)
  ]

  found_over : session_takes s ≡ true → (found : FrameEventValue)
      → (framing (session_max s) s.frame piece).finding ≡ found
      → option_and_then frame_message (handed_found shared s found) ≡ Some m → HandsOver shared s piece m
  found_over takes (AFrame frame) e is =
      let parts = read_over frame _ refl is in
      record { takes = takes; frame = frame; found = e; reads = parts.0; over = parts.1 }
  found_over takes other e is = absurd cc

  pub request_handed : option_and_then frame_message (handed shared s piece) ≡ Some m → HandsOver shared s piece m
  unfolding handed
  request_handed is = elim (cases_Bool _) [
    | inl takes ↦ found_over takes (framing _ s.frame piece).finding refl (rw takes at is)
    | inr stopped ↦ absurd (grind arith)
  ]

module _ {shared : ServerState} {s : SessionValue} {piece : List ℕ} {m : Message}
    (hands : HandsOver shared s piece m) where
  asks : (asks_this s.link m ≡ true)
      × (is_handed (delay_in (link_after s.link (call.Handle m)) (delay_on shared m)) ≡ true)
  asks = and_parts _ _ hands.over

  verdict_is : (react (state_in s.link) m).verdict ≡ verdict.Request
  verdict_is = request_verdict _ asks.0

  pub is_ready : (takes_messages s.link.phase ≡ true) × (session_ready s ≡ true)
  is_ready = and_parts _ _ hands.takes

  opened : is_open s.link.phase ≡ true
  opened = open_phase _ is_ready.0 (react_asks _ m verdict_is).not_waiting

  same_link : link_after s.link (call.Handle m) ≡ s.link
  same_link = request_stays s.link m verdict_is

  pub delayed : (seconds : ℕ) × (delay_on shared m ≡ Some (record { by = Application; seconds = seconds }))
      × (can_hold s.link ≡ true)
  delayed = handed_delay s.link _ (rw same_link at asks.1)

  -- The time at which the request is due.
  abbrev pub deadline : ℕ
  deadline = moment_after shared.now delayed.0

  pending_is : delay_in s.link (delay_on shared m) ≡ Some (record { by = Application; seconds = delayed.0 })
  pending_is = rw (delayed.1, delayed.2)

  appended : link_after s.link (call.HoldRequest m.token deadline) ≡ (with_request s m deadline).link
  appended = rw (opened, delayed.2)

  whole : session_with [] (with_request s m deadline).link (without_entry m.token s.observers)
      ≡ with_request s m deadline
  whole = rw (is_ready.0, opened)

  handled_is : session_handled shared s m ≡ with_request s m deadline
  unfolding session_handled
  handled_is = rw (asks.0, same_link, pending_is, appended) whole

  changes_nothing : change_by shared s.link m ≡ store_change.Nothing
  changes_nothing = rw asks.0 (late_quiet shared m _ 0 [] delayed.1)

  took_message : taking shared s piece ≡ taking_read shared s (framing (session_max s) s.frame piece).taken (Ok m)
  unfolding taking
  took_message = rw (hands.takes, hands.found, hands.reads)

  pub took_session : (taking shared s piece).session ≡ with_request s m deadline
  took_session = rw took_message handled_is

  pub took_nothing : shared_changed shared (taking shared s piece).change ≡ shared
  took_nothing = rw (took_message, changes_nothing)

  from_application : (shared.store.applications ≢ None)
      × (IfSome shared.store.applications (λ a. 1 ≤ a.deadline) → 1 ≤ delayed.0)
  from_application = deadline_some _ m delayed.0 (delay_is_deadline _ _ delayed.0 delayed.1)

  pub deadline_later : IfSome shared.store.applications (λ a. 1 ≤ a.deadline)
      → shared.now < 18446744073709551615 → shared.now < deadline
  deadline_later some early = omega (arith, from_application.1 some)

  -- The server has applications.
  pub has_applications : shared.store.applications ≢ None
  has_applications = from_application.0

  -- If the deadline is to come, nothing is left to settle.
  pub took_settled : shared.now < deadline → IsSettled shared s → IsSettled shared (with_request s m deadline)
  unfolding without_entry
  took_settled later settled =
      let found = found_ready shared s is_ready.1 in
      settled_quiet shared _ (none_due_more _ deadline m.token _ later (sym found.0 ∙ settled.0))
      (none_found _ _ (all_filter (λ o. is_stale shared o ≡ false) _
      s.observers (none_due _ s.observers (sym found.1 ∙ settled.1))))

-- The connection on which a take hands over a request.
pub session_handed : (v : ServerValue) (id : ℕ) (piece : List ℕ) (m : Message) → handed_by v id piece ≡ Some m
    → (s : SessionValue) × (session_of id v.sessions ≡ Some s) × HandsOver v.shared s piece m
unfolding handed_frame
session_handed v id piece m = by _ _ refl
  where
    by : (found : Option SessionValue) (stop : Option Reason) → session_of id v.sessions ≡ found
        → option_and_then frame_message (handed_on v piece found stop) ≡ Some m
        → (s : SessionValue) × (session_of id v.sessions ≡ Some s) × HandsOver v.shared s piece m
    by (Some s) None there is = (s, there, request_handed v.shared s piece m is)
    by found stop there is = absurd cc

-- A request whose deadline has come when it is handed over: the connection answers it by 5.04 when it settles.

-- No entry is a request of the application.
abbrev pub NoRequests : List PendingEntryValue → Type 0
NoRequests pending = AllByRecursion (λ e. is_of_application e ≡ false) pending

-- ---- settling hands over no request

none_requested_left : (now : ℕ) (pending : List PendingEntryValue) → NoRequests pending
    → NoRequests (without_due now pending)
unfolding without_due
none_requested_left now pending none = grind (arith, all_remove)

send_asks_none : (s : ConnectionState) (m less : Message) (r : Reply) → NoRequests s.pending
    → NoRequests (send_as s m less r).pending
send_asks_none s m less r none = grind arith

reply_asks_none : (l : LinkValue) (m : Message) → NoRequests l.pending
    → NoRequests (link_after l (call.Reply m)).pending
reply_asks_none l m none = grind (arith, send_asks_none (state_in l))

due_asks_none : (l : LinkValue) (now : ℕ) → NoRequests (without_due now l.pending)
    → NoRequests (link_after l (call.Due now)).pending
due_asks_none l now left = grind (arith, send_asks_none (state_due now (state_in l)))

sent_asks_none : (l : LinkValue) (now : ℕ) (e : PendingEntryValue) → NoRequests (without_due now l.pending)
    → NoRequests (link_sent l now e).pending
sent_asks_none l now (Answer who token moment) left =
    reply_asks_none _ _ (due_asks_none l now left)
sent_asks_none l now (Pong token) left = due_asks_none l now left

once_asks_none : (shared : ServerState) (v : SessionValue) → NoRequests v.link.pending
    → NoRequests (session_settled_once shared v).link.pending
unfolding session_settled_once
once_asks_none shared v none = by _
  where
    reported : (next : Option ObserverValue) → NoRequests (session_notified shared v next).link.pending
    reported None = none
    reported (Some o) = reply_asks_none v.link _ none

    by : (due : Option PendingEntryValue) → NoRequests (session_settled_so shared v due).link.pending
    by None = reported _
    by (Some e) = sent_asks_none v.link _ e (none_requested_left shared.now v.link.pending none)

within_asks_none : (turns : ℕ) (shared : ServerState) (v : SessionValue) → NoRequests v.link.pending
    → NoRequests (session_settled_within turns shared v).link.pending
unfolding session_settled_within
within_asks_none zero shared v none = none
within_asks_none (suc turns) shared v none = within_asks_none turns shared _ (once_asks_none shared v none)

-- ---- the entry of the request is due first

-- Of a list in which only the last element passes, the others are left without one that passes.
without_last : {A : Type 0} (P : A → Type 0) (xs : List A) (x : A) (before : List A) (y : A) (later : List A)
    → xs ++ x ∷ [] ≡ before ++ y ∷ later → AllByRecursion (λ z. P z → ⊥) xs → P y → before ++ later ≡ xs
without_last P [] x [] y later same none passes = cc
without_last P [] x (b ∷ before) y later same none passes =
    let rest : [] ≡ before ++ y ∷ later = cc in absurd (omega (arith, ap length rest, length-append before (y ∷ later)))
without_last P (z ∷ xs) x [] y later same none passes =
    let one : z ≡ y = cc in
    absurd (rw one at none.0 passes)
without_last P (z ∷ xs) x (b ∷ before) y later same none passes =
    let rest : xs ++ x ∷ [] ≡ before ++ y ∷ later = cc in
    cc (without_last P xs x before y later rest none.1 passes)

all_last : {A : Type 0} (P : A → Type 0) (xs : List A) (x : A) → AllByRecursion P (xs ++ x ∷ []) → P x
all_last P [] x all = all.0
all_last P (y ∷ xs) x all = all_last P xs x all.1

has_come : (now moment : ℕ) → moment ≤ now → (if nat_le moment now then Some moment else None) ≡ Some moment
has_come now moment come = rw (le-leb moment now come)

module _ (now : ℕ) (pending : List PendingEntryValue) (token : List ℕ) (moment : ℕ)
    (none : first_due now pending ≡ None) (come : moment ≤ now) where
  abbrev all : List PendingEntryValue
  all = pending ++ Answer Application token moment ∷ []

  never : AllByRecursion (λ e. due_moment now e ≡ None) all → ⊥
  never silent =
      cc (
        all_last (λ e. due_moment now e ≡ None) pending _ silent,
        has_come now moment come,
      )

  -- The other entries are left.
  others_left : (who : Responder) (other : List ℕ) (due : ℕ) → first_due now all ≡ Some (Answer who other due)
      → without_due now all ≡ pending
  others_left who other due found =
      let first = due_answer now all who other due found in
      first.without ∙ without_last (λ e. (m : ℕ) × (due_moment now e ≡ Some m)) pending _ first.before
      _ first.after first.there
      (all_to (λ e. due_moment now e ≡ None) (λ e. ((m : ℕ) × (due_moment now e ≡ Some m)) → ⊥)
      (λ e is is_due. (let bad : None ≡ Some is_due.0 = sym is ∙ is_due.1 in cc)) pending
      (due_nothing now pending none).0.0) (due, has_come now due first.has_come)

module _ (shared : ServerState) (v : SessionValue) (pending : List PendingEntryValue) (token : List ℕ) (moment : ℕ)
    (is : v.link.pending ≡ pending ++ Answer Application token moment ∷ []) (ready : session_ready v ≡ true)
    (none : first_due shared.now pending ≡ None) (come : moment ≤ shared.now) (requested : NoRequests pending) where
  first_settles : NoRequests (session_settled_once shared v).link.pending
  unfolding session_settled_once
  first_settles = by _ (rw (← is) (sym (found_ready shared v ready).0))
    where
      by : (due : Option PendingEntryValue) → first_due shared.now (pending ++ Answer Application token moment ∷ [])
          ≡ due → NoRequests (session_settled_so shared v due).link.pending
      by None found = absurd (never _ pending token moment none come (due_nothing _ _ found).0.0)
      by (Some (Pong other)) found =
          absurd (never _ pending token moment none come (due_alone shared.now _ other found))
      by (Some (Answer who other due)) found =
          sent_asks_none v.link shared.now (Answer who other due)
          (rw (is, others_left shared.now pending token moment none come who other due found) requested)

  -- No request of the application is pending after the connection settled.
  pub settles_request : NoRequests (session_settled shared v).link.pending
  unfolding session_settled session_settled_within
  settles_request =
      let count : length v.link.pending + length v.observers ≡ suc (length pending + length v.observers) =
      omega (arith, ap length is, length-append pending (Answer Application token moment ∷ [])) in
      rw count
      (within_asks_none (length pending + length v.observers) shared (session_settled_once shared v) first_settles)

-- ---- errors without a pending request

no_request : (token : List ℕ) (pending : List PendingEntryValue) → NoRequests pending
    → has_request token pending ≡ false
no_request token [] none = refl
no_request token (Answer Application other moment ∷ pending) none = absurd cc
no_request token (e ∷ pending) none = no_request token pending none.1

pub no_request_fault : (l : LinkValue) (read : Result Message FormatFault) (why : RespondFault) → NoRequests l.pending
    → frame_refusal l read ≡ Some why → (why ≡ fault.NotAResponse) ⊎ (why ≡ fault.NoSuchRequest)
unfolding response_refusal
no_request_fault l (Err e) why none is = inl (cc)
no_request_fault l (Ok m) why none is = inr (cc (rw (no_request m.token _ none) at is))

-- The deadlines of pending requests fit in 64 bits, so all have come at the last time.

-- ---- the requests of a connection

abbrev AreSmall : List ApplicationRequest → Type 0
AreSmall rs = AllByRecursion (λ r. r.deadline ≤ 18446744073709551615) rs

fated_small : (test : ApplicationRequest → Bool) (fate : Fate) (rs : List ApplicationRequest) → AreSmall rs
    → AreSmall (with_fate test fate rs)
fated_small test fate rs are =
    fate_all (λ r. r.deadline ≤ 18446744073709551615) (λ r. r.deadline ≤ 18446744073709551615) test fate
    (λ r is. is) (λ r passes is. is) rs are

new_small : (now : ℕ) (s : Connection) (m : Message) (deadline : Option ℕ) → AreSmall (new_request now s m deadline)
new_small now s m deadline = grind arith

after_small : (store : StoreValue) (now : ℕ) (s : Connection) (m : Message) (rs : List ApplicationRequest)
    → AreSmall rs → AreSmall (requests_after store now s m rs)
unfolding requests_after
after_small store now s m rs are = grind (arith, all_append, new_small now s m)

responded_small : (s : Connection) (m : Message) (rs : List ApplicationRequest) → AreSmall rs
    → AreSmall (requests_responded s m rs)
unfolding requests_responded
responded_small s m rs are = grind (arith, fated_small)

due_small : (s : Connection) (found : Option PendingEntryValue) (rs : List ApplicationRequest) → AreSmall rs
    → AreSmall (requests_due s found rs)
due_small s found rs are = grind (arith, fated_small)

within_small : (turns : ℕ) (store : StoreValue) (now : ℕ) (s : Connection) (rs : List ApplicationRequest)
    → AreSmall rs → AreSmall (requests_within turns store now s rs)
unfolding requests_within requests_once
within_small zero store now s rs are = are
within_small (suc turns) store now s rs are = within_small turns store now _ _ (due_small s (next_pending now s) rs are)

then_small : (id : ℕ) (w : World) (rs : List ApplicationRequest) → AreSmall rs → AreSmall (requests_then id w rs)
unfolding requests_then requests_settled
then_small id w rs are = grind (arith, within_small)

acted_small : (id : ℕ) (w : World) (st : Step) (rs : List ApplicationRequest) → AreSmall rs
    → AreSmall (requests_acted id w st rs)
unfolding requests_acted
acted_small id w st rs are = grind (arith, after_small, responded_small)

steps_small : (limits : LimitValues) (id : ℕ) (w : World) (ss : List Step) (rs : List ApplicationRequest)
    → AreSmall rs → AreSmall (requests_by limits id w ss rs)
unfolding requests_by world.step
steps_small limits id w [] rs are = are
steps_small limits id w (s ∷ ss) rs are =
    steps_small limits id (world.step limits w s) ss _ (then_small id (acted limits w s) _ (acted_small id w s rs are))

requests_small : (c : ConfigValues) (es : List AcceptedCall) (id : ℕ) → AreSmall (requests_on c id es)
unfolding requests_on
requests_small c es id = steps_small c.limits id _ _ [] tt

-- ---- pending requests

-- A response is due in 64 bits.
abbrev MomentSmall : PendingEntryValue → Type 0
MomentSmall (Answer by token moment) = moment ≤ 18446744073709551615
MomentSmall (Pong token) = ⊥

none_requested : (now : ℕ) (pending : List PendingEntryValue) → 18446744073709551615 ≤ now
    → AllByRecursion (λ e. due_moment now e ≡ None) pending
    → AllByRecursion MomentSmall (filter is_of_application pending) → NoRequests pending
none_requested now [] late none small = tt
none_requested now (Answer Application token moment ∷ pending) late none small =
    let first = none.0 in absurd (grind (arith, nat_tests, first, small.0))
none_requested now (Answer Engine token moment ∷ pending) late none small =
    (refl, none_requested now pending late none.1 small)
none_requested now (Pong token ∷ pending) late none small = (refl, none_requested now pending late none.1 small)

-- If no entry is due at the last time, then no request is pending.
pub no_request_waits : (c : ConfigValues) (es : List AcceptedCall) (id : ℕ) (s : Connection)
    → side_of id (world_after c es).sides ≡ Some s → has_stopped s.history.phase ≡ false
    → 18446744073709551615 ≤ (world_after c es).now
    → AllByRecursion (λ e. due_moment (world_after c es).now e ≡ None) s.history.pending → NoRequests s.history.pending
no_request_waits c es id s there live late none =
    none_requested (world_after c es).now _ late none (rw (← (requests_accounted c es id s there).pending live)
    (all_map (λ r. r.deadline ≤ 18446744073709551615) MomentSmall entry_of (λ r is. is) _
    (all_filter (λ r. r.deadline ≤ 18446744073709551615) waits _ (requests_small c es id))))

-- ---- a server that shows events

-- Every connection of it is settled.
shown_is_settled : (v : ServerValue) (es : List AcceptedCall) → Shows v es → AreSettled v.shared v.sessions
unfolding server_of
shown_is_settled v es shows =
    let w : World = world_after v.config es in
    let still : server_settled (server_of v.config es) ≡ server_of v.config es =
    sym (server_after_settling v.config es w (world_known v.config es shows.moment))
    ∙ ap (server_shown v.config es) (world_stays w (world_hears v.config es)) in
    let same : server_settled v ≡ v = ap server_settled shows.same ∙ still ∙ sym shows.same in
    rw (ap (λ (u : ServerValue). u.sessions) same) at (all_are_settled v.shared v.sessions)

steps_keep_applications : (limits : LimitValues) (w : World) (ss : List Step)
    → (after_steps limits w ss).store.applications ≡ w.store.applications
unfolding after_steps
steps_keep_applications limits w [] = refl
steps_keep_applications limits w (s ∷ ss) =
    steps_keep_applications limits (world.step limits w s) ss ∙ applications_stay limits w s

-- Its applications are those of its configuration.
shown_applications : (v : ServerValue) (es : List AcceptedCall) → Shows v es
    → v.shared.store.applications ≡ v.config.applications
unfolding world_after
shown_applications v es shows =
    rw (shared_shown v es shows)
    (steps_keep_applications v.config.limits (new_world v.config) (steps_of v.config.limits.max_message es))

-- ---- a connection by its id

one_settled : (shared : ServerState) (id : ℕ) (es : Entries) (s : SessionValue) → AreSettled shared es
    → session_of id es ≡ Some s → IsSettled shared s
unfolding session_of
one_settled shared id [] s all is = absurd cc
one_settled shared id (e ∷ es) s all is = grind (arith, all.0, one_settled shared id es s all.1)

-- The connection after a call on it, when all have settled.
pub becomes_settled : (shared : ServerState) (id : ℕ) (f : SessionValue → SessionValue) (es : Entries)
    (s : SessionValue) → session_of id es ≡ Some s
    → session_of id (map (settled_entry shared) (map (session_becomes id f) es)) ≡ Some (session_settled shared (f s))
unfolding session_of
becomes_settled shared id f [] s is = absurd cc
becomes_settled shared id f (e ∷ es) s is = grind (arith, becomes_settled shared id f es s)

-- ---- the request that a take hands over

never_stopped : (p : Phase) → takes_messages p ≡ true → has_stopped p ≡ false
never_stopped p live = grind arith

module _ (v : ServerValue) (es : List AcceptedCall) (id : ℕ) (piece : List ℕ) (m : Message) (shows : Shows v es)
    (requested : handed_by v id piece ≡ Some m) where
  -- The connection before the take.
  there_before : (s : SessionValue) × (session_of id v.sessions ≡ Some s) × HandsOver v.shared s piece m
  there_before = session_handed v id piece m requested

  abbrev asking : SessionValue
  asking = there_before.0

  asking_settled : IsSettled v.shared asking
  asking_settled = one_settled v.shared id _ asking (shown_is_settled v es shows) there_before.1

  silent : first_due v.shared.now asking.link.pending ≡ None
  silent = sym (found_ready v.shared asking (is_ready there_before.2).1).0 ∙ asking_settled.0

  -- The time at which the request is due.
  abbrev due : ℕ
  due = deadline there_before.2

  -- The connection after the take, before it settles.
  abbrev waiting : SessionValue
  waiting = with_request asking m due

  ready : session_ready waiting ≡ true
  ready = (is_ready there_before.2).1

  there_after : session_of id (server_taken v id piece).sessions ≡ Some (session_settled v.shared waiting)
  unfolding server_taken
  there_after =
      let t = taking v.shared asking piece in
      rw (
        there_before.1,
        becomes_settled _ id (λ _. t.session) _ asking there_before.1,
        took_nothing there_before.2,
        took_session there_before.2,
      )

  refusal_is : (bytes : List ℕ) → responded_refusal (server_taken v id piece) id bytes
      ≡ option_map response_fault (frame_refusal (session_settled v.shared waiting).link (message_of bytes))
  refusal_is bytes = ap (responded_refusal_on bytes) there_after

  -- ---- before the last time

  module _ (early : v.shared.now < 18446744073709551615) where
    to_come : v.shared.now < due
    to_come = deadline_later there_before.2 (rw (shown_applications v es shows) shows.deadline) early

    stays_settled : session_settled v.shared waiting ≡ waiting
    stays_settled = settled_stays v.shared waiting (took_settled there_before.2 to_come asking_settled)

    has_room : (session_settled v.shared waiting).link.limits.max_sent ≤ free_in (session_settled v.shared waiting).link
    has_room = rw stays_settled (leb-true waiting.link.limits.max_sent (free_in waiting.link) ready)

    -- A response with the token of the request is accepted.
    pub at_once_accepted : (bytes : List ℕ) (response : Message) → message_of bytes ≡ Ok response
        → response.token ≡ m.token → is_plain_response response ≡ true
        → responded_refusal (server_taken v id piece) id bytes ≡ None
    at_once_accepted bytes response reads token plain =
        let has : has_request response.token (session_settled v.shared waiting).link.pending ≡ true =
        rw (stays_settled, token) (requested_last m.token asking.link.pending due) in
        rw (
          refusal_is bytes,
          reads,
          accepted_with (session_settled v.shared waiting).link response has_room has plain,
        )

    -- The server accepts what it gives of the bytes that the application writes.
    pub at_once_answered : (bytes : List ℕ) → bytes ≢ []
        → responded_refusal (server_taken v id piece) id (response_for (server_taken v id piece) id m.token bytes)
        ≡ None
    at_once_answered [] written = absurd (written refl)
    at_once_answered (b ∷ rest) written =
        elim (cases_Bool (is_none (responded_refusal (server_taken v id piece) id (b ∷ rest)))) [
          | inl none ↦ rw none (none_where (responded_refusal (server_taken v id piece) id (b ∷ rest)) none)
          | inr other ↦
              rw other (at_once_accepted (spelling (failure_with m.token)) (failure_with m.token)
              (failure_read there_before.2.frame m there_before.2.reads) refl refl)
        ]

  -- ---- the last time

  -- No request is pending after the take, since all are due.
  none_after : 18446744073709551615 ≤ v.shared.now → NoRequests (session_settled v.shared waiting).link.pending
  none_after late =
      let model = session_there v es id asking shows there_before.1 in
      let now : v.shared.now ≡ (world_after v.config es).now = rw (shared_shown v es shows) in
      let pending = ap (λ s. s.link.pending) model.shown in
      let live = rw model.shown at (is_ready there_before.2).0 in
      let none : NoRequests asking.link.pending =
      rw pending (no_request_waits v.config es id model.side model.there (never_stopped model.side.history.phase live)
      (rw now at late) (subst (λ n. AllByRecursion (λ e. due_moment n e ≡ None) model.side.history.pending) now
      (subst (AllByRecursion (λ e. due_moment v.shared.now e ≡ None)) pending
      (due_nothing _ asking.link.pending silent).0.0))) in
      settles_request v.shared waiting asking.link.pending m.token due refl ready silent (omega arith) none

  -- ---- errors

  -- Only the message and its token can be wrong.
  pub at_once_refused : (bytes : List ℕ) (why : ResponseFault)
      → responded_refusal (server_taken v id piece) id bytes ≡ Some why
      → (why ≡ responding.NotAResponse) ⊎ (why ≡ responding.NoSuchRequest)
  at_once_refused bytes why is =
      let l = (session_settled v.shared waiting).link in
      let made = one_made response_fault _ why (sym (refusal_is bytes) ∙ is) in
      let fault_is : (made.0 ≡ fault.NotAResponse) ⊎ (made.0 ≡ fault.NoSuchRequest) =
      elim (cases_lt v.shared.now 18446744073709551615) [
        | inl early ↦ other_fault l _ made.0 (has_room early) made.1
        | inr late ↦ no_request_fault l _ made.0 (none_after late) made.1
      ] in
      elim fault_is [ inl other ↦ inl (rw other at (sym made.2)) | inr other ↦ inr (rw other at (sym made.2)) ]
