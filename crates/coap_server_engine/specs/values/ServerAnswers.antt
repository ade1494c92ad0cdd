-- Defined by this project: the results of a server's calls, and the reasons for which they fail.
use Rattle.std.specs.Prelude.{◌≡◌, ℕ, Bool, true, false, List, [], ◌∷◌, length, take, Option, Some, None, Result, Ok}
use Rattle.std.specs.Prelude.{Err, option_map, nat_le, nat_lt, ◌==◌, if◌then◌else◌}
use Rattle.coap_conn.specs.declared.reason.Reason.{Reason}
use Rattle.coap_conn.specs.Phases.{stop_of}
use Rattle.coap_conn.specs.LinkValue.{is_finished}
use Rattle.coap_conn.specs.Release.{release_refusal}
use Rattle.coap_server_session.specs.values.Sessions.{SessionValue, session_takes, taking, RefusesPiece}
use Rattle.coap_server_engine.specs.values.Servers.{ServerValue, session_of, server_taken}
use Rattle.coap_wire.specs.Message.{Message}
use Rattle.coap_wire.specs.Reading.{message_of}
use Rattle.coap_wire.specs.declared.fault.FormatFault.{FormatFault}
use Rattle.coap_model.specs.world.Events.{AcceptedCall, Responded}
use Rattle.coap_conn.specs.Fit.{fit, bare_response}
use Rattle.coap_conn.specs.LinkValue.{limit_in}
use Rattle.coap_conn.specs.Responses.{frame_refusal, OnMessage}
use Rattle.coap_conn.specs.declared.phase.Reply.{Reply}
use Rattle.coap_model.specs.declared.answers.ResponseFault.{ResponseFault}
use Rattle.coap_model.specs.declared.answers.ResponseFault.TheVariants as responding
use Rattle.coap_model.specs.Answers.{release_fault, response_fault}
use Rattle.coap_model.specs.declared.answers.Handled.{Handled}
use Rattle.coap_model.specs.declared.answers.Handled.TheVariants as handled
use Rattle.coap_model.specs.declared.answers.Status.{Status}
use Rattle.coap_model.specs.declared.answers.OpenFault.{OpenFault}
use Rattle.coap_model.specs.declared.answers.OpenFault.TheVariants as opening
use Rattle.coap_model.specs.declared.answers.TakeFault.{TakeFault}
use Rattle.coap_model.specs.declared.answers.TakeFault.TheVariants as taken
use Rattle.coap_model.specs.declared.answers.WrittenFault.{WrittenFault}
use Rattle.coap_model.specs.declared.answers.WrittenFault.TheVariants as writing
use Rattle.coap_model.specs.declared.answers.ReleaseFault.{ReleaseFault}
use Rattle.coap_model.specs.declared.answers.ReleaseFault.TheVariants as releasing

-- ---- open

-- The reason for which `open` fails, apart from memory: the connection limit is reached, or no id is left.
abbrev pub open_refusal : ServerValue → Option OpenFault
open_refusal v =
    if nat_le v.config.connections (length v.sessions) then Some opening.Full
    else (if v.ids == 18446744073709551615 then Some opening.IdsSpent else None)

-- The refusal that an error reports, or `None` for `Memory`.
abbrev pub open_refusal_in : OpenFault → Option OpenFault
open_refusal_in opening.Full = Some opening.Full
open_refusal_in opening.IdsSpent = Some opening.IdsSpent
open_refusal_in opening.Memory = None

-- States the results that `open` may have: success or `Memory` if there is no refusal, otherwise the refusal.
abbrev pub OpenedOrMemory : {T : Type 0} → Result T OpenFault → Option OpenFault → Type 0
OpenedOrMemory (Ok x) refusal = refusal ≡ None
OpenedOrMemory (Err fault) refusal = refusal ≡ open_refusal_in fault

-- ---- written

-- The reason for which `written` fails: there is no connection, or `count` exceeds the number of queued bytes.
abbrev pub written_refusal_on : ℕ → Option SessionValue → Option WrittenFault
written_refusal_on count None = Some writing.NoSuch
written_refusal_on count (Some s) = if nat_lt (length s.link.waiting) count then Some writing.TooMany else None

-- The same for the connection with this id.
abbrev pub written_refusal : ServerValue → ℕ → ℕ → Option WrittenFault
written_refusal v id count = written_refusal_on count (session_of id v.sessions)

-- ---- release

-- The reason for which `release` fails: there is no connection, or its link does not send Release.
abbrev pub released_refusal_on : Option SessionValue → Option ReleaseFault
released_refusal_on None = Some releasing.NoSuch
released_refusal_on (Some s) = option_map release_fault (release_refusal s.link)

-- The same for the connection with this id.
abbrev pub released_refusal : ServerValue → ℕ → Option ReleaseFault
released_refusal v id = released_refusal_on (session_of id v.sessions)

-- ---- take

-- `true` if there is a connection, and it accepts bytes.
abbrev pub can_take_on : Option SessionValue → Bool
can_take_on None = false
can_take_on (Some s) = session_takes s

-- The reason for which a connection no longer accepts messages, if there is a connection and such a reason.
abbrev pub stop_on : Option SessionValue → Option Reason
stop_on None = None
stop_on (Some s) = stop_of s.link.phase

-- The result of a `take`: `Nothing` if the connection did not accept bytes (`takes`), `Stopped` if it no longer accepts
-- messages. Otherwise it says whether a message was processed.
abbrev pub handled_so : (takes message : Bool) → Option Reason → Handled
handled_so false message stop = handled.Nothing
handled_so true message (Some why) = handled.Stopped why
handled_so true true None = handled.Message
handled_so true false None = handled.Nothing

-- The result of a `take` of `piece` on a connection that has the reason `stop` afterwards.
abbrev pub handled_on : ServerValue → List ℕ → Option SessionValue → Option Reason → Handled
handled_on v piece None stop = handled.Nothing
handled_on v piece (Some s) stop = handled_so (session_takes s) (taking v.shared s piece).handled stop

-- The result of a `take` of `piece` on the connection with this id.
unfoldable pub handled_by : ServerValue → ℕ → List ℕ → Handled
handled_by v id piece =
    handled_on v piece (session_of id v.sessions) (stop_on (session_of id (server_taken v id piece).sessions))

-- Holds if there is a connection, and allocation may fail in its `take` of `piece`.
abbrev pub RefusesPieceOn : ServerValue → List ℕ → ℕ → Option SessionValue → Type 0
RefusesPieceOn v piece bytes None = ⊥
RefusesPieceOn v piece bytes (Some s) = RefusesPiece v.shared s piece bytes

-- States the server after a `take` that failed. If no connection has this id, nothing has changed. If allocation
-- failed, the server has accepted the first `bytes` bytes of `piece`.
abbrev pub IsNotTaken : ServerValue → ℕ → List ℕ → TakeFault → ServerValue → Type 0
IsNotTaken v id piece taken.NoSuch after = (session_of id v.sessions ≡ None) × (after ≡ v)
IsNotTaken v id piece (taken.Memory bytes) after =
    RefusesPieceOn v piece bytes (session_of id v.sessions) × (after ≡ server_taken v id (take bytes piece))

-- ---- output

-- The queued bytes of the connection with this id.
abbrev pub front_of : ServerValue → ℕ → Option (List ℕ)
front_of v id = option_map (λ s. s.link.waiting) (session_of id v.sessions)

-- ---- status

-- The status of a connection.
abbrev pub session_status : SessionValue → Status
session_status s = record {
  phase = s.link.phase;
  kept = length s.frame;
  waiting = length s.link.waiting;
  pending = length s.link.pending;
  observers = length s.observers;
  peer_max = s.link.peer_max;
  finished = is_finished s.link;
}

-- The status of the connection with this id.
abbrev pub status_of : ServerValue → ℕ → Option Status
status_of v id = option_map session_status (session_of id v.sessions)

-- ---- responses of the application

-- The reason for which `respond` fails: there is no connection, or its link does not accept the response.
abbrev pub responded_refusal_on : List ℕ → Option SessionValue → Option ResponseFault
responded_refusal_on bytes None = Some responding.NoSuch
responded_refusal_on bytes (Some s) = option_map response_fault (frame_refusal s.link (message_of bytes))

-- The same for the connection with this id.
abbrev pub responded_refusal : ServerValue → ℕ → List ℕ → Option ResponseFault
responded_refusal v id bytes = responded_refusal_on bytes (session_of id v.sessions)

-- The response was sent whole or reduced, or stopped the connection, by the limit of the peer.
abbrev pub IsReplyOn : List ℕ → Reply → Option SessionValue → Type 0
IsReplyOn bytes reply None = ⊥
IsReplyOn bytes reply (Some s) = OnMessage (message_of bytes) (λ m. reply ≡ fit (limit_in s.link) m (bare_response m))

-- The event of a response, by the message that its bytes encode, if they encode one.
abbrev pub response_event : ℕ → Result Message FormatFault → List AcceptedCall
response_event id (Ok m) = Responded id m ∷ []
response_event id (Err e) = []
