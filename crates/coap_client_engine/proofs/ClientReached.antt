-- Properties of a client after accepted calls, and the state of the client after one more call.
use Rattle.std.proofs.Common.{◌≡◌, ℕ, ◌≤◌, Bool, true, false, List, [], ◌∷◌, ◌++◌, length, take, Some, None, Result, Ok}
use Rattle.std.proofs.Common.{Err, refl, sym, ap, ◌∙◌, arith}
use Rattle.coap_client_engine.specs.Prelude.{nat_le, Message, message_of, StreamFault, OfFrame, Format, Stream}
use Rattle.coap_client_engine.specs.Prelude.{frame_then, fault_bytes, FormatFault, Framing, FrameEventValue, Nothing}
use Rattle.coap_client_engine.specs.Prelude.{AFrame, AFault, framing, Client, LimitValues, takes_messages, reject_of}
use Rattle.coap_client_engine.specs.Prelude.{History, IsHistory, after, link_of, LinkValue, free_in, link_after}
use Rattle.coap_client_engine.specs.Prelude.{request_of, cancel_of, ClientValue, ClientTakeOutcome, taking_rejected}
use Rattle.coap_client_engine.specs.Prelude.{taking_read, taking_found, taking, is_cut, ClientCall, announce_refusal}
use Rattle.coap_client_engine.specs.Prelude.{send_refusal, cancelling_refusal, ping_refusal, Took, may_forget}
use Rattle.coap_client_engine.specs.Prelude.{release_refusal, Sent, Cancelled, Pinged, Forgot, Released, Announced}
use Rattle.coap_client_engine.specs.Prelude.{Wrote, Ended, ClientStep, size_by, size_in, stream_in, taken_by, steps_by}
use Rattle.coap_client_engine.specs.Prelude.{after_steps, client_after, handles, takes, event_by, event_of, IsAccepted}
use Rattle.coap_client_engine.specs.Prelude.{AreAccepted, kept_after, client_of}
use Rattle.std.proofs.lemmas.Bool.{and_parts}
use Rattle.std.proofs.lemmas.Bool.Decides.{nat_tests}
use Rattle.std.proofs.lemmas.List.{nil_from_length, take_all}
use Rattle.coap_conn.specs.Calls as call
use Rattle.coap_conn.specs.Calls.{Call, call_effect, IsWithin}
use Rattle.coap_conn.proofs.LinkLemmas.{new_shown, shown_after}
use Rattle.coap_client_engine.specs.ClientWorld as client
use Rattle.coap_frame.proofs.FrontLaws.{front, front_whole, added_by, added_front, front_kept}
use Rattle.coap_client_engine.proofs.ClientSteps.{size_with_call, stream_stays, stream_first, stream_rest_unfinished}
use Rattle.coap_client_engine.proofs.ClientSteps.{client_first, client_same, client_more, by_calls, AddsTo, take_adds}
use Rattle.coap_client_engine.proofs.ClientSteps.{steps_added, empty_take_stream, empty_take_steps}

-- ---- steps

-- A step keeps the limits.
step_limits : (h : History) (s : ClientStep) → (client.step h s).limits ≡ h.limits
unfolding client.step
step_limits h s = grind arith

steps_limits : (h : History) (ss : List ClientStep) → (after_steps h ss).limits ≡ h.limits
unfolding after_steps
steps_limits h [] = refl
steps_limits h (s ∷ ss) = steps_limits (client.step h s) ss ∙ step_limits h s

-- The limits in the history are those of the client.
pub limits_same : (limits : LimitValues) (tokens : ℕ) (calls : List ClientCall)
    → (client_after limits tokens calls).limits ≡ limits
unfolding client_after
limits_same limits tokens calls = steps_limits _ _

-- ---- a call that accepts no bytes

-- Says that a client with this link accepts a call other than a `take`.
abbrev pub Accepts : LinkValue → ClientCall → Type 0
Accepts l (Took bytes) = ⊥
Accepts l (Sent method target extras) = send_refusal l method target extras ≡ None
Accepts l (Cancelled token target extras) = cancelling_refusal l token target extras ≡ None
Accepts l (Pinged custody) = ping_refusal l custody ≡ None
Accepts l (Forgot token) = may_forget l token ≡ true
Accepts l Released = release_refusal l ≡ None
Accepts l (Announced size) = announce_refusal l size ≡ None
Accepts l (Wrote n) = n ≤ length l.waiting
Accepts l Ended = Unit {0}

-- The call on the link, if these bytes are buffered.
abbrev pub link_call : ClientCall → List ℕ → Call
link_call (Took bytes) frame = call.Written 0
link_call (Sent method target extras) frame = call.Request (request_of method target extras) extras.observe
link_call (Cancelled token target extras) frame = call.Cancel token (cancel_of target extras)
link_call (Pinged custody) frame = call.Ping custody
link_call (Forgot token) frame = call.Forget token
link_call Released frame = call.Release
link_call (Announced size) frame = call.Announce size
link_call (Wrote n) frame = call.Written n
link_call Ended frame = call.End (is_cut frame)

-- The bytes that stay buffered.
abbrev pub frame_by : ClientCall → List ℕ → List ℕ
frame_by Released frame = []
frame_by Ended frame = []
frame_by other frame = frame

-- The client after the call.
abbrev pub client_by : ClientCall → ClientValue → ClientValue
client_by c v = record { frame = frame_by c v.frame; link = link_after v.link (link_call c v.frame) }

-- The step of the call.
bare_step : (M : ℕ) (calls : List ClientCall) (h : History) (c : ClientCall) → Accepts (link_of h) c
    → after_steps h (steps_by M calls c) ≡ after h (link_call c (stream_in M calls).rest)
unfolding steps_by after_steps client.step
bare_step M calls h (Took bytes) may = absurd may
bare_step M calls h Released may = rw may
bare_step M calls h (Announced size) may = rw may
bare_step M calls h c may = refl

-- The effect of the call on a history, after which these bytes are the rest of the input.
record IsBare (h : History) (rest : List ℕ) (c : ClientCall) : Type 0 where
  none : taken_by c ≡ []
  kept : kept_after (after h (link_call c rest)) rest ≡ frame_by c (kept_after h rest)
  link : link_after (link_of h) (link_call c (kept_after h rest)) ≡ link_after (link_of h) (link_call c rest)
  live : takes_messages (after h (link_call c rest)).phase ≡ true → takes_messages h.phase ≡ true
  size : (after h (link_call c rest)).own_max ≡ size_by c h.own_max
  within : IsWithin (link_of h) (call_effect (link_of h) (link_call c rest)).deed

is_bare : (h : History) (rest : List ℕ) (c : ClientCall) → Accepts (link_of h) c → IsBare h rest c
is_bare h rest c may = grind (arith, nat_tests)

-- ---- the result of the framer

abbrev client_shown_by : List ℕ → LinkValue → ClientValue
client_shown_by frame link = record { frame = frame; link = link }

-- The client with a given history of its connection and given buffered bytes.
abbrev client_shown : History → List ℕ → ClientValue
client_shown h frame = client_shown_by frame (link_of h)

-- The client after a history and with a given rest of its input.
abbrev left : History → List ℕ → ClientValue
left h rest = client_shown h (kept_after h rest)

-- The result of a `take`, given the steps and the stream that its bytes add to a history.
record IsTaken (h : History) (taken : ClientTakeOutcome) (n : ℕ) (added : Stream) : Type 0 where
  count : taken.count ≡ n
  event : taken.event ≡ event_by h (steps_added added)
  client : taken.client ≡ left (after_steps h (steps_added added)) added.rest
  is_history : IsHistory (after_steps h (steps_added added))
  live : takes_messages (after_steps h (steps_added added)).phase ≡ true
      → added.fault ≡ None
  size : (after_steps h (steps_added added)).own_max ≡ h.own_max

module _ (h : History) (is : IsHistory h) (live : takes_messages h.phase ≡ true) (kept bytes : List ℕ) where
  taken_fault : (n : ℕ) (fault : StreamFault) (rest : List ℕ)
      → IsTaken h (taking_rejected (client_shown h kept) n (reject_of fault)) n
      (record { messages = []; rest = rest; fault = Some fault })
  unfolding after_steps client.step
  taken_fault n fault rest =
      let now = shown_after h (call.Reject (reject_of fault)) tt is in
      grind arith

  taken_read : (n : ℕ) (frame : List ℕ) (r : Result Message FormatFault)
      → IsTaken h (taking_read (client_shown h kept) n r) n
      (frame_then frame r (record { messages = []; rest = []; fault = None }))
  unfolding after_steps client.step
  taken_read n frame (Ok m) =
      let now = shown_after h (call.Handle m) tt is in
      grind arith
  taken_read n frame (Err e) = taken_fault n Format frame

  taken_found : (f : Framing) (found : FrameEventValue) → (found ≡ Nothing → f.kept ≡ kept ++ bytes)
      → IsTaken h (taking_found (client_shown h kept) f found) f.taken (added_by kept bytes found)
  unfolding after_steps
  taken_found f Nothing all = grind arith
  taken_found f (AFrame frame) all = taken_read f.taken frame (message_of frame)
  taken_found f (AFault fault) all = taken_fault f.taken (OfFrame fault) (fault_bytes (kept ++ bytes))

-- ---- the state after accepted calls

-- The history satisfies its invariant. If messages are accepted, the stream has no fault. The size of the largest
-- message that is accepted is the one announced last.
pub record CallsReach (limits : LimitValues) (tokens : ℕ) (calls : List ClientCall) : Type 0 where
  pub is_history : IsHistory (client_after limits tokens calls)
  pub live : takes_messages (client_after limits tokens calls).phase ≡ true
      → (stream_in limits.max_message calls).fault ≡ None
  pub size : (client_after limits tokens calls).own_max ≡ size_in limits.max_message calls

-- The definitions give the accepted bytes and the event, and the remaining state is the client after the call.
pub record IsTakenAndReported (limits : LimitValues) (tokens : ℕ) (calls : List ClientCall) (piece bytes : List ℕ)
    : Type 0 where
  pub count : (taking (client_of limits tokens calls) piece).count ≡ takes limits tokens calls piece
  pub event : (taking (client_of limits tokens calls) piece).event ≡ event_of limits tokens calls (Took bytes)
  pub client : (taking (client_of limits tokens calls) piece).client
      ≡ client_of limits tokens (calls ++ Took bytes ∷ [])
  pub accepted : IsAccepted limits tokens calls (Took bytes)

-- A call that accepts no bytes keeps the stream.
module _ (limits : LimitValues) (tokens : ℕ) (calls : List ClientCall) (c : ClientCall)
    (may : Accepts (link_of (client_after limits tokens calls)) c) where
  pub bare_after : client_after limits tokens (calls ++ c ∷ [])
      ≡ after (client_after limits tokens calls) (link_call c (stream_in limits.max_message calls).rest)
  bare_after = client_more limits tokens calls c ∙ bare_step limits.max_message calls _ c may

  pub bare_stream : stream_in limits.max_message (calls ++ c ∷ []) ≡ stream_in limits.max_message calls
  bare_stream =
      stream_stays limits.max_message calls c
      (is_bare (client_after limits tokens calls) (stream_in limits.max_message calls).rest c may).none

module _ (limits : LimitValues) (tokens : ℕ) (calls : List ClientCall) (before : CallsReach limits tokens calls) where
  abbrev max_taken : ℕ
  max_taken = limits.max_message

  -- The history and the stream before the call.
  abbrev h : History
  h = client_after limits tokens calls

  abbrev calls_stream : Stream
  calls_stream = stream_in limits.max_message calls

  -- The size of the largest message that is accepted before the call.
  abbrev size_before : ℕ
  size_before = size_in limits.max_message calls

  -- ---- a call that accepts no bytes

  module _ (c : ClientCall) (may : Accepts (link_of h) c) where
    bare_reached : CallsReach limits tokens (calls ++ c ∷ [])
    bare_reached =
        let is = is_bare h calls_stream.rest c may in
        let now = bare_after limits tokens calls c may in
        record {
          is_history = rw now (shown_after h _ is.within before.is_history).is_history;
          live = rw (now, bare_stream limits tokens calls c may) (λ takes. before.live (is.live takes));
          size = rw (now, size_with_call max_taken calls c, ← before.size) is.size;
        }

    -- The client after the call.
    pub bare_left : client_by c (client_of limits tokens calls) ≡ client_of limits tokens (calls ++ c ∷ [])
    unfolding client_of
    bare_left =
        let is = is_bare h calls_stream.rest c may in
        let shown = shown_after h _ is.within before.is_history in
        rw (bare_after limits tokens calls c may, bare_stream limits tokens calls c may)
        (ap (client_shown_by (frame_by c (kept_after h calls_stream.rest))) (is.link ∙ shown.same)
        ∙ ap (λ (frame : List ℕ). client_shown (after h (link_call c calls_stream.rest)) frame) (sym is.kept))

  -- ---- a take

  abbrev after_take : List ℕ → List ClientCall
  after_take bytes = calls ++ Took bytes ∷ []

  -- At least one byte of a slice is accepted.
  module _ (piece : List ℕ) (does : handles h ≡ true) where
    abbrev found_of_piece : Framing
    found_of_piece = framing size_before calls_stream.rest piece

    abbrev taken : List ℕ
    taken = front size_before calls_stream.rest piece

    abbrev added : Stream
    added = added_by calls_stream.rest taken found_of_piece.finding

    takes_now : takes_messages h.phase ≡ true
    takes_now = (and_parts (takes_messages h.phase) (nat_le h.limits.max_sent (free_in (link_of h))) does).0

    found_adds : AddsTo max_taken calls taken added
    found_adds =
        let none = before.live takes_now in
        take_adds max_taken calls taken added none
        (added_front size_before calls_stream.rest piece (stream_rest_unfinished max_taken calls none))

    found_taken : IsTaken h (taking_found (client_shown h calls_stream.rest) found_of_piece found_of_piece.finding)
        found_of_piece.taken added
    found_taken =
        taken_found h before.is_history takes_now calls_stream.rest taken found_of_piece found_of_piece.finding
        (front_kept size_before calls_stream.rest piece)

    found_after : client_after limits tokens (after_take taken)
        ≡ after_steps h (steps_added added)
    found_after = client_more limits tokens calls (Took taken) ∙ rw found_adds.steps

    found_reached : CallsReach limits tokens (after_take taken)
    found_reached =
        record {
          is_history = rw found_after found_taken.is_history;
          live = rw (found_after, found_adds.stream) found_taken.live;
          size = rw (found_after, size_with_call max_taken calls (Took taken)) (found_taken.size ∙ before.size);
        }

    takes_is : (other : List ℕ)
        → takes limits tokens calls other ≡ (framing size_before calls_stream.rest other).taken
    unfolding takes
    takes_is other = rw does

    taking_is : taking (client_of limits tokens calls) piece
        ≡ taking_found (client_shown h calls_stream.rest) found_of_piece found_of_piece.finding
    unfolding taking client_of
    taking_is = rw (does, takes_now, before.size)

    found_reported : IsTakenAndReported limits tokens calls piece taken
    unfolding event_of IsAccepted client_of
    found_reported =
        let whole = front_whole size_before calls_stream.rest piece
        (stream_rest_unfinished max_taken calls (before.live takes_now)) in
        record {
          count = rw (taking_is, takes_is) found_taken.count;
          event = rw (taking_is, found_adds.steps) found_taken.event;
          client = rw (taking_is, found_after, found_adds.stream) found_taken.client;
          accepted = takes_is taken ∙ whole;
        }

  -- No byte is accepted if there is no room or no message is accepted.
  takes_nothing : (piece : List ℕ) → handles h ≡ false → takes limits tokens calls piece ≡ 0
  unfolding takes
  takes_nothing piece not = rw not

  none_reported : (piece : List ℕ) → handles h ≡ false → IsTakenAndReported limits tokens calls piece []
  unfolding event_of IsAccepted client_of taking takes
  none_reported piece not =
      let steps = empty_take_steps max_taken calls in
      record {
        count = rw not;
        event = rw (not, steps);
        client = rw (not, client_same limits tokens calls (Took []) steps, empty_take_stream);
        accepted = rw not;
      }

  reported_if : (piece : List ℕ) (does : Bool) → handles h ≡ does
      → IsTakenAndReported limits tokens calls piece (take (takes limits tokens calls piece) piece)
  reported_if piece true e = rw (takes_is piece e piece) (found_reported piece e)
  reported_if piece false e = rw (takes_nothing piece e) (none_reported piece e)

  pub takes_and_reports : (piece : List ℕ)
      → IsTakenAndReported limits tokens calls piece (take (takes limits tokens calls piece) piece)
  takes_and_reports piece = reported_if piece (handles h) refl

  -- ---- the state after one more call

  take_reached : (bytes : List ℕ) (does : Bool) → handles h ≡ does → takes limits tokens calls bytes ≡ length bytes
      → CallsReach limits tokens (after_take bytes)
  take_reached bytes true e all =
      rw (← takes_is bytes e bytes, all, take_all (length bytes) bytes (omega arith)) at (found_reached bytes e)
  take_reached bytes false e all =
      let same = client_same limits tokens calls (Took []) (empty_take_steps max_taken calls) in
      rw (nil_from_length bytes (sym all ∙ takes_nothing bytes e)) (record {
        is_history = rw same before.is_history;
        live = rw (same, empty_take_stream) before.live;
        size = rw (same, size_with_call) before.size;
      })

  call_reached : (c : ClientCall) → IsAccepted limits tokens calls c → CallsReach limits tokens (calls ++ c ∷ [])
  unfolding IsAccepted
  call_reached (Took bytes) all = take_reached bytes (handles h) refl all
  call_reached c may = bare_reached c may

no_call_reached : (limits : LimitValues) (tokens : ℕ) → CallsReach limits tokens []
unfolding size_in
no_call_reached limits tokens = record {
  is_history = rw client_first (new_shown Client limits tokens _ refl).is_history;
  live = λ takes. ap (λ (u : Stream). u.fault) (stream_first limits.max_message);
  size = rw client_first;
}

-- The state after any accepted calls.
pub accepted_reach : (limits : LimitValues) (tokens : ℕ) (calls : List ClientCall) → AreAccepted limits tokens calls
    → CallsReach limits tokens calls
accepted_reach limits tokens calls all =
    by_calls limits tokens (CallsReach limits tokens) (no_call_reached limits tokens)
    (λ before c accepted last reached. call_reached limits tokens before reached c last) calls all
