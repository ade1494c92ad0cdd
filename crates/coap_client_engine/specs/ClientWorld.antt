-- Defined by this project: the client model. Accepted calls give steps, and steps give the history of the connection.
use Rattle.std.specs.Prelude.{◌≡◌, ℕ, ◌≤◌, Bool, ◌&&◌, List, [], ◌∷◌, ◌++◌, length, map, drop, Option, Some, None}
use Rattle.std.specs.Prelude.{true, is_none, nat_le, nat_lt, if◌then◌else◌}
use Rattle.std.specs.List.{flat_map}
use Rattle.coap_wire.specs.Message.{Message}
use Rattle.coap_wire.specs.Frames.{Sizes, constant_size, sizes_first}
use Rattle.coap_wire.specs.Stream.{StreamFault, Stream, sized_split}
use Rattle.coap_frame.specs.Framing.{framing}
use Rattle.coap_conn.specs.declared.phase.Role.TheVariants.{Client}
use Rattle.coap_conn.specs.Limits.{LimitValues}
use Rattle.coap_conn.specs.Phases.{takes_messages}
use Rattle.coap_conn.specs.Rejects.{reject_of, reject_reason}
use Rattle.coap_conn.specs.Reaction.{react}
use Rattle.coap_conn.specs.History.{History, new_history, state_now, waiting_of, after, link_of}
use Rattle.coap_conn.specs.Calls.{may_forget}
use Rattle.coap_conn.specs.Calls as call
use Rattle.coap_conn.specs.LinkValue.{free_in}
use Rattle.coap_conn.specs.Release.{release_refusal}
use Rattle.coap_client_request.specs.declared.request.Method.{Method}
use Rattle.coap_client_request.specs.Targets.{TargetValue}
use Rattle.coap_client_request.specs.Requests.{ExtrasValue, request_of, cancel_of}
use Rattle.coap_client_engine.specs.ClientValues.{ClientValue, ClientEventValue, Stopped, verdict_event, is_cut}
use Rattle.coap_client_engine.specs.ClientValues.{send_refusal, cancelling_refusal, ping_refusal, announce_refusal}

-- An accepted call with its arguments. A refused call is not recorded.
pub data ClientCall : Type 0 where
  Took : (bytes : List ℕ) → ClientCall
  Sent : (method : Method) (target : TargetValue) (extras : ExtrasValue) → ClientCall
  Cancelled : (token : List ℕ) (target : TargetValue) (extras : ExtrasValue) → ClientCall
  Pinged : (custody : Bool) → ClientCall
  Forgot : (token : List ℕ) → ClientCall
  Released : ClientCall
  Announced : (size : ℕ) → ClientCall
  Wrote : (n : ℕ) → ClientCall
  Ended : ClientCall

-- An effect of a call on the connection. Steps contain messages, not bytes, so they do not depend on the encoding or
-- segmentation of the input.
pub data ClientStep : Type 0 where
  Handles : (m : Message) → ClientStep
  Faults : (fault : StreamFault) → ClientStep
  Requests : (m : Message) (observe : Bool) → ClientStep
  Cancels : (token : List ℕ) (m : Message) → ClientStep
  Pings : (custody : Bool) → ClientStep
  Forgets : (token : List ℕ) → ClientStep
  Releases : ClientStep
  Announces : (size : ℕ) → ClientStep
  Writes : (n : ℕ) → ClientStep
  Ends : (cut : Bool) → ClientStep

-- ---- steps

-- The bytes that a call accepts from the input.
abbrev pub taken_by : ClientCall → List ℕ
taken_by (Took bytes) = bytes
taken_by (Sent method target extras) = []
taken_by (Cancelled token target extras) = []
taken_by (Pinged custody) = []
taken_by (Forgot token) = []
taken_by Released = []
taken_by (Announced size) = []
taken_by (Wrote n) = []
taken_by Ended = []

-- The size of the largest message that the client accepts after a call, if it is `M` before. Only the announcement of a
-- larger size changes it.
abbrev pub size_by : ClientCall → ℕ → ℕ
size_by (Announced size) M = if nat_lt M size then size else M
size_by other M = M

-- The size of the largest message that the client accepts after calls, if it is `M` at first.
unfoldable pub size_in : ℕ → List ClientCall → ℕ
size_in M [] = M
size_in M (c ∷ cs) = size_in (size_by c M) cs

-- RFC 8323 section 5.3.1: for each accepted byte, the size of the largest message that the client accepted when this
-- byte came. Bytes after these calls have the last size.
unfoldable pub sizes_in : ℕ → List ClientCall → Sizes
sizes_in M [] = constant_size M
sizes_in M (c ∷ cs) = sizes_first (length (taken_by c)) M (sizes_in (size_by c M) cs)

-- The messages, rest and fault of all bytes that the calls accepted, for messages of at most `M` bytes at first.
abbrev pub stream_in : ℕ → List ClientCall → Stream
stream_in M calls = sized_split (sizes_in M calls) (flat_map taken_by calls)

-- The step of a fault that was not present before.
abbrev pub new_fault : Option StreamFault → Option StreamFault → List ClientStep
new_fault before None = []
new_fault None (Some fault) = Faults fault ∷ []
new_fault (Some old) (Some fault) = []

-- The steps of a stream that continues another one: its messages and its fault, without those of the stream `before`.
abbrev pub beyond : Stream → Stream → List ClientStep
beyond before after = map Handles (drop (length before.messages) after.messages) ++ new_fault before.fault after.fault

-- The steps of a call after the calls `earlier`. Accepted bytes give the messages and the fault whose last byte is
-- among them.
unfoldable pub steps_by : ℕ → List ClientCall → ClientCall → List ClientStep
steps_by M earlier (Took bytes) = beyond (stream_in M earlier) (stream_in M (earlier ++ Took bytes ∷ []))
steps_by M earlier (Sent method target extras) = Requests (request_of method target extras) extras.observe ∷ []
steps_by M earlier (Cancelled token target extras) = Cancels token (cancel_of target extras) ∷ []
steps_by M earlier (Pinged custody) = Pings custody ∷ []
steps_by M earlier (Forgot token) = Forgets token ∷ []
steps_by M earlier Released = Releases ∷ []
steps_by M earlier (Announced size) = Announces size ∷ []
steps_by M earlier (Wrote n) = Writes n ∷ []
steps_by M earlier Ended = Ends (is_cut (stream_in M earlier).rest) ∷ []

-- The steps of calls after the calls `earlier`.
unfoldable pub later_steps : ℕ → List ClientCall → List ClientCall → List ClientStep
later_steps M earlier [] = []
later_steps M earlier (c ∷ cs) = steps_by M earlier c ++ later_steps M (earlier ++ c ∷ []) cs

-- The steps of a list of calls.
unfoldable pub steps_of : ℕ → List ClientCall → List ClientStep
steps_of M calls = later_steps M [] calls

-- ---- the connection

-- The history of the connection after one more step. A Release or an announcement is sent only if it is not refused.
unfoldable pub step : History → ClientStep → History
step h (Handles m) = after h (call.Handle m)
step h (Faults fault) = after h (call.Reject (reject_of fault))
step h (Requests m observe) = after h (call.Request m observe)
step h (Cancels token m) = after h (call.Cancel token m)
step h (Pings custody) = after h (call.Ping custody)
step h (Forgets token) = after h (call.Forget token)
step h Releases = if is_none (release_refusal (link_of h)) then after h call.Release else h
step h (Announces size) = if is_none (announce_refusal (link_of h) size) then after h (call.Announce size) else h
step h (Writes n) = after h (call.Written n)
step h (Ends cut) = after h (call.End cut)

-- The history of the connection after more steps.
unfoldable pub after_steps : History → List ClientStep → History
after_steps h [] = h
after_steps h (s ∷ ss) = after_steps (step h s) ss

-- The history of the connection after a list of calls. The first token encodes the number after `tokens`.
unfoldable pub client_after : LimitValues → ℕ → List ClientCall → History
client_after limits tokens calls = after_steps (new_history Client limits tokens) (steps_of limits.max_message calls)

-- ---- the number of accepted bytes

-- True if the connection accepts messages, and its queue has room for a message of maximum size.
abbrev pub handles : History → Bool
handles h = takes_messages h.phase && nat_le h.limits.max_sent (free_in (link_of h))

-- The number of bytes of `piece` that the client accepts after the calls. The count is 0 if `handles` is false.
-- Otherwise `piece` continues the unfinished rest of the earlier bytes. The client accepts bytes up to the end of a
-- message, up to the byte that reveals an error, or all of `piece`.
unfoldable pub takes : LimitValues → ℕ → List ClientCall → List ℕ → ℕ
takes limits tokens calls piece =
    if handles (client_after limits tokens calls)
    then (framing (size_in limits.max_message calls) (stream_in limits.max_message calls).rest piece).taken else 0

-- ---- events

-- The event of a list of steps: that of its first step, if this is a processed message or a fault.
abbrev pub event_by : History → List ClientStep → Option ClientEventValue
event_by h [] = None
event_by h (Handles m ∷ more) = verdict_event m (react (state_now h) m).verdict
event_by h (Faults fault ∷ more) = Some (Stopped (reject_reason (reject_of fault)))
event_by h (Requests m observe ∷ more) = None
event_by h (Cancels token m ∷ more) = None
event_by h (Pings custody ∷ more) = None
event_by h (Forgets token ∷ more) = None
event_by h (Releases ∷ more) = None
event_by h (Announces size ∷ more) = None
event_by h (Writes n ∷ more) = None
event_by h (Ends cut ∷ more) = None

-- The event of a call after the calls `earlier`.
unfoldable pub event_of : LimitValues → ℕ → List ClientCall → ClientCall → Option ClientEventValue
event_of limits tokens earlier call =
    event_by (client_after limits tokens earlier) (steps_by limits.max_message earlier call)

-- ---- accepted calls

-- Says that a client accepts a call after the calls `earlier`. A `take` accepts all bytes that the call records. A
-- request, cancellation, Ping, Release or announcement is not refused. A token that is forgotten is outstanding. No
-- more bytes are written than are queued.
unfoldable pub IsAccepted : LimitValues → ℕ → List ClientCall → ClientCall → Type 0
IsAccepted limits tokens earlier (Took bytes) = takes limits tokens earlier bytes ≡ length bytes
IsAccepted limits tokens earlier (Sent method target extras) =
    send_refusal (link_of (client_after limits tokens earlier)) method target extras ≡ None
IsAccepted limits tokens earlier (Cancelled token target extras) =
    cancelling_refusal (link_of (client_after limits tokens earlier)) token target extras ≡ None
IsAccepted limits tokens earlier (Pinged custody) =
    ping_refusal (link_of (client_after limits tokens earlier)) custody ≡ None
IsAccepted limits tokens earlier (Forgot token) = may_forget (link_of (client_after limits tokens earlier)) token ≡ true
IsAccepted limits tokens earlier Released = release_refusal (link_of (client_after limits tokens earlier)) ≡ None
IsAccepted limits tokens earlier (Announced size) =
    announce_refusal (link_of (client_after limits tokens earlier)) size ≡ None
IsAccepted limits tokens earlier (Wrote n) = n ≤ length (waiting_of (client_after limits tokens earlier))
IsAccepted limits tokens earlier Ended = Unit {0}

-- Says that each call is accepted after the calls before it.
unfoldable pub AreAcceptedAfter : LimitValues → ℕ → List ClientCall → List ClientCall → Type 0
AreAcceptedAfter limits tokens earlier [] = Unit {0}
AreAcceptedAfter limits tokens earlier (c ∷ cs) =
    IsAccepted limits tokens earlier c × AreAcceptedAfter limits tokens (earlier ++ c ∷ []) cs

-- Says that a new client accepts all calls of a list.
abbrev pub AreAccepted : LimitValues → ℕ → List ClientCall → Type 0
AreAccepted limits tokens calls = AreAcceptedAfter limits tokens [] calls

-- ---- the client after calls

-- The buffered bytes of an unfinished frame: the rest of the stream if messages are accepted, otherwise none.
abbrev pub kept_after : History → List ℕ → List ℕ
kept_after h rest = if takes_messages h.phase then rest else []

-- The client after a list of calls.
unfoldable pub client_of : LimitValues → ℕ → List ClientCall → ClientValue
client_of limits tokens calls =
    record {
      frame = kept_after (client_after limits tokens calls) (stream_in limits.max_message calls).rest;
      link = link_of (client_after limits tokens calls);
    }

-- Says that a client accepted the calls, and that its state is the one to which they lead.
pub record ClientShows (v : ClientValue) (tokens : ℕ) (calls : List ClientCall) : Type 0 where
  pub accepted : AreAccepted v.link.limits tokens calls
  pub same : v ≡ client_of v.link.limits tokens calls
