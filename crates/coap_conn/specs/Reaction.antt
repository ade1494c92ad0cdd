-- RFC 8323 sections 3.3, 3.4 and 5, RFC 7252 section 12.1: the reaction of a connection to a received message.
use Rattle.std.specs.Prelude.{ℕ, ◌/◌, Bool, true, false, not, ◌&&◌, ◌||◌, List, [], ◌∷◌, ◌++◌, length, Option, Some}
use Rattle.std.specs.Prelude.{None, nat_lt, find, ◌==◌, if◌then◌else◌}
use Rattle.std.specs.List.{list_any}
use Rattle.coap_wire.specs.Message.{CoapOption, Message}
use Rattle.coap_wire.specs.Codes as code
use Rattle.coap_conn.specs.SignalOptions as option
use Rattle.coap_conn.specs.Phases.{stop_of, is_waiting}
use Rattle.coap_conn.specs.declared.reason.Reason.{Reason}
use Rattle.coap_conn.specs.declared.reason.Reason.TheVariants.{ReservedCode, CsmExpected, BadCsm, BadSignalOption}
use Rattle.coap_conn.specs.declared.reason.Reason.TheVariants.{PeerAbort, PeerRelease, PeerTooSmall}
use Rattle.coap_conn.specs.declared.phase.Phase.{Phase}
use Rattle.coap_conn.specs.declared.phase.Phase.TheVariants as phase
use Rattle.coap_conn.specs.declared.phase.Role.{Role}
use Rattle.coap_conn.specs.declared.phase.Role.TheVariants.{Server, Client}
use Rattle.coap_conn.specs.declared.phase.Reply.{Reply}
use Rattle.coap_conn.specs.declared.phase.Reply.TheVariants as reply
use Rattle.coap_conn.specs.Reasons.{abort_of}
use Rattle.coap_conn.specs.Announced.{has_critical_option, bad_csm_option}
use Rattle.coap_conn.specs.Fit.{fit, bare_response, without_options, abort_fitted}
use Rattle.coap_conn.specs.PendingEntries.{PendingEntryValue, Answer, Pong}
use Rattle.coap_conn.specs.Outstanding.{OutstandingValue, matches_response, is_last, matches_pong, without_matching}
use Rattle.coap_conn.specs.Outstanding.{without_pinged}
use Rattle.coap_conn.specs.Verdicts.{VerdictValue}
use Rattle.coap_conn.specs.Verdicts as verdict

-- The state that decides a reaction. `limit` is the size of the largest message that may be sent, `pending` are the
-- pending entries, and `most` is their limit.
pub record ConnectionState : Type 0 where
  pub role : Role
  pub phase : Phase
  pub limit : ℕ
  pub pending : List PendingEntryValue
  pub most : ℕ
  pub outstanding : List OutstandingValue

-- The effect of a reaction: the messages queued, and the state after it.
pub record ReactionResult : Type 0 where
  pub queued : List Message
  pub phase : Phase
  pub pending : List PendingEntryValue
  pub outstanding : List OutstandingValue

-- A reaction: its effect, and the verdict that the caller receives.
pub record Reaction : Type 0 where
  pub effect : ReactionResult
  pub verdict : VerdictValue

-- ---- effects

-- No change.
abbrev pub stay : ConnectionState → ReactionResult
stay s = record { queued = []; phase = s.phase; pending = s.pending; outstanding = s.outstanding }

-- A stop of the connection, the only one defined. These messages are the last ones queued, and all pending and
-- outstanding entries are dropped.
abbrev pub stop : ConnectionState → Reason → List Message → ReactionResult
stop s why farewell = record { queued = farewell; phase = phase.Stopped why; pending = []; outstanding = [] }

-- A stop with the Abort for its reason, if there is one, reduced to fit the peer's limit.
abbrev pub abort : ConnectionState → Reason → ReactionResult
abort s why = stop s why (abort_fitted s.limit (abort_of why))

-- The effect of sending `m` with this result: `m` is queued, or `less` in its place, or the connection stops.
abbrev pub send_as : ConnectionState → Message → Message → Reply → ReactionResult
send_as s m less reply.Whole = record (stay s) { queued = m ∷ [] }
send_as s m less reply.Bare = record (stay s) { queued = less ∷ [] }
send_as s m less reply.Stopped = stop s PeerTooSmall []

-- The effect of sending `m`, or `less` if `m` is too large. If both are too large, the connection stops.
abbrev pub send : ConnectionState → Message → Message → ReactionResult
send s m less = send_as s m less (fit s.limit m less)

-- ---- parts of reactions

-- No change, and this verdict.
abbrev pub reports : ConnectionState → VerdictValue → Reaction
reports s what = record { effect = stay s; verdict = what }

-- Another phase, and this verdict. No message is queued.
abbrev pub becomes : ConnectionState → Phase → VerdictValue → Reaction
becomes s now what = record { effect = record (stay s) { phase = now }; verdict = what }

-- A stop with the Abort for its reason, and the verdict `Stopped`.
abbrev pub aborts : ConnectionState → Reason → Reaction
aborts s why = record { effect = abort s why; verdict = verdict.Stopped why }

-- The verdict on a message to which a reply was sent with this result.
abbrev pub reply_verdict : Reply → VerdictValue
reply_verdict reply.Whole = verdict.Done
reply_verdict reply.Bare = verdict.Done
reply_verdict reply.Stopped = verdict.Stopped PeerTooSmall

-- The reply `m` to a message, or `less` if `m` is too large, and the verdict on that message.
abbrev pub sends : ConnectionState → Message → Message → Reaction
sends s m less = record { effect = send s m less; verdict = reply_verdict (fit s.limit m less) }

-- ---- codes

-- True if a code has class 1 or 6, which are reserved.
abbrev pub is_reserved : ℕ → Bool
is_reserved byte = byte / 32 == 1 || byte / 32 == 6

-- True if a code has class 7, which is that of Signalling Messages.
abbrev pub is_signal : ℕ → Bool
is_signal byte = byte / 32 == 7

-- True if a code has class 0, which is that of methods. Empty is tested before.
abbrev pub is_method : ℕ → Bool
is_method byte = byte / 32 == 0

-- True if a message is a request: its code is that of a method, and not Empty.
abbrev pub is_asking : Message → Bool
is_asking m = is_method m.code && not (m.code == code.empty)

-- True if a message is a response: its code has class 2, 4 or 5.
abbrev pub is_response : Message → Bool
is_response m = code.class_of m.code == 2 || (code.class_of m.code == 4 || code.class_of m.code == 5)

-- True if a critical option stops the connection in messages with this code: Ping, Pong and Release.
abbrev pub checks_critical_options : ℕ → Bool
checks_critical_options byte = byte == code.ping || byte == code.pong || byte == code.release

-- ---- messages

-- The reaction to a CSM. The first option that a CSM must not have, given by its number, stops the connection.
-- Otherwise the connection is open.
abbrev pub csm_reaction : ConnectionState → Option ℕ → Reaction
csm_reaction s (Some number) = aborts s (BadCsm number)
csm_reaction s None = becomes s phase.Open (if is_waiting s.phase then verdict.Opened else verdict.Done)

-- True if a Ping or a Pong has Custody, which is an empty option (RFC 8323 section 5.4.1).
abbrev pub asks_custody : Message → Bool
asks_custody m = list_any (λ o. o.number == option.custody && length o.value == 0) m.options

-- The options of a Ping or a Pong, with Custody or without.
abbrev pub custody_options : Bool → List CoapOption
custody_options true = record { number = option.custody; value = [] } ∷ []
custody_options false = []

-- The Pong to the Ping with this token, with Custody or without.
abbrev pub pong_with : Bool → List ℕ → Message
pong_with custody token = record { code = code.pong; token = token; options = custody_options custody; payload = [] }

-- The Pong to a Ping if no entry is pending: with Custody if the Ping has it.
abbrev pub pong_of : Message → Message
pong_of m = pong_with (asks_custody m) m.token

-- True if a message is a Pong with Custody.
abbrev pub is_custody_pong : Message → Bool
is_custody_pong m = m.code == code.pong && asks_custody m

-- The reaction that appends this entry to the pending list, and the verdict `Done`.
abbrev pub holds : ConnectionState → PendingEntryValue → Reaction
holds s e = record { effect = record (stay s) { pending = s.pending ++ e ∷ [] }; verdict = verdict.Done }

-- The reaction to a Ping with Custody if entries are pending: the Pong is appended to the pending list. If the list is
-- full, the Pong is sent at once without Custody.
abbrev pub late_pong : ConnectionState → Message → Reaction
late_pong s m =
    if nat_lt (length s.pending) s.most then holds s (Pong m.token)
    else sends s (pong_with false m.token) (pong_with false m.token)

-- The reaction to a Ping. A Pong with Custody says that all requests before the Ping were answered, so it waits for the
-- pending entries (RFC 8323 section 5.4.1).
abbrev pub ping_reaction : ConnectionState → Message → Reaction
ping_reaction s m =
    if asks_custody m && nat_lt 0 (length s.pending) then late_pong s m
    else sends s (pong_of m) (without_options (pong_of m))

-- The response 5.01 (Not Implemented) to a request.
abbrev pub not_implemented : Message → Message
not_implemented m = record { code = code.not_implemented; token = m.token; options = []; payload = [] }

-- The reaction to a request. At a server the caller responds; at a client the response is 5.01.
abbrev pub request_reaction : ConnectionState → Message → Role → Reaction
request_reaction s m Server = reports s verdict.Request
request_reaction s m Client = sends s (not_implemented m) (bare_response (not_implemented m))

-- The reaction to a Release. No more messages are accepted, and outstanding entries are dropped. Pending entries are
-- still sent (RFC 8323 section 5.5).
abbrev pub release_reaction : ConnectionState → Reaction
release_reaction s = record {
  effect = record (stay s) { phase = phase.Releasing PeerRelease; outstanding = [] };
  verdict = verdict.Stopped PeerRelease;
}

-- ---- responses and Pongs

-- The reaction that leaves these entries outstanding, and this verdict.
abbrev pub leaves : ConnectionState → List OutstandingValue → VerdictValue → Reaction
leaves s outstanding what = record { effect = record (stay s) { outstanding = outstanding }; verdict = what }

-- The reaction to a response that matches this entry, or none. The last response removes the entry.
abbrev pub answered : ConnectionState → Message → Option OutstandingValue → Reaction
answered s m None = reports s verdict.Stranger
answered s m (Some e) =
    if is_last m e then leaves s (without_matching m.token s.outstanding) (verdict.Answer m.token true)
    else reports s (verdict.Answer m.token false)

-- The reaction to a response, which matches the request or observation with its token, or none (RFC 7252 section
-- 5.3.2).
abbrev pub response_reaction : ConnectionState → Message → Reaction
response_reaction s m = answered s m (find (matches_response m.token) s.outstanding)

-- The reaction to a Pong, which matches the Ping with its token, or none (RFC 8323 section 5.4).
abbrev pub pong_reaction : ConnectionState → Message → Reaction
pong_reaction s m =
    if list_any (matches_pong m.token) s.outstanding
    then leaves s (without_pinged m.token s.outstanding) (verdict.Pong m.token (asks_custody m))
    else reports s verdict.Stranger

-- The reaction of an open connection to a message that is neither Empty nor CSM nor Abort, and whose code is not
-- reserved. The first case that applies decides.
abbrev pub open_reaction : ConnectionState → Message → Reaction
open_reaction s m =
    if checks_critical_options m.code && has_critical_option m then aborts s BadSignalOption
    else (if m.code == code.ping then ping_reaction s m
    else (if m.code == code.release then release_reaction s
    else (if m.code == code.pong then pong_reaction s m
    else (if is_signal m.code then reports s verdict.Done
    else (if is_method m.code then request_reaction s m s.role
    else response_reaction s m)))))

-- The reaction to a message in the phases `Waiting` and `Open`. The first case that applies decides. An Abort is not
-- answered by an Abort.
unfoldable pub live_reaction : ConnectionState → Message → Reaction
live_reaction s m =
    if is_reserved m.code then aborts s ReservedCode
    else (if m.code == code.empty then reports s verdict.Done
    else (if m.code == code.abort then aborts s PeerAbort
    else (if m.code == code.csm then csm_reaction s (bad_csm_option m)
    else (if is_waiting s.phase then aborts s CsmExpected
    else open_reaction s m))))

-- The reaction to a message, which changes nothing if there is a reason to accept none.
abbrev pub reaction_unless : ConnectionState → Message → Option Reason → Reaction
reaction_unless s m None = live_reaction s m
reaction_unless s m (Some why) = reports s (verdict.Stopped why)

-- The reaction to a message.
unfoldable pub react : ConnectionState → Message → Reaction
react s m = reaction_unless s m (stop_of s.phase)

-- ---- due entries

-- The effect after an entry that was due is removed. A response is sent by the caller. A Pong is sent with Custody, or
-- without if only that fits.
abbrev pub due_effect : ConnectionState → Option PendingEntryValue → ReactionResult
due_effect s None = stay s
due_effect s (Some (Answer by token moment)) = stay s
due_effect s (Some (Pong token)) = send s (pong_with true token) (pong_with false token)
