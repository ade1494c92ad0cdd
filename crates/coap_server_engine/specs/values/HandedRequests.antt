-- Defined by this project: the request that a `take` hands to the application.
use Rattle.std.specs.Prelude.{◌≡◌, ◌∷◌, ◌++◌, [], take, ℕ, List, Option, Some, None, Result, Ok, Err, option_and_then}
use Rattle.coap_wire.specs.Message.{Message}
use Rattle.coap_wire.specs.Reading.{message_of}
use Rattle.coap_wire.specs.declared.fault.FormatFault.{FormatFault}
use Rattle.coap_conn.specs.declared.reason.Reason.{Reason}
use Rattle.coap_server_session.specs.values.Sessions.{SessionValue}
use Rattle.coap_server_session.specs.values.HandedRequests.{handed}
use Rattle.coap_server_engine.specs.values.Servers.{ServerValue, session_of, server_taken}
use Rattle.coap_server_engine.specs.values.ServerAnswers.{stop_on, IsNotTaken}
use Rattle.coap_model.specs.declared.answers.TakeFault.{TakeFault}
use Rattle.coap_model.specs.world.Events.{AcceptedCall, Took}
use Rattle.coap_server_engine.specs.world.Shows.{Shows, ShowsRefused}
use Rattle.coap_server_engine.specs.declared.taken_request.TakenRequest.{TakenRequest}

-- The message that was read, if it is one.
abbrev pub message_in : Result Message FormatFault → Option Message
message_in (Ok m) = Some m
message_in (Err e) = None

-- The message of a frame, if it has one.
abbrev pub frame_message : List ℕ → Option Message
frame_message frame = message_in (message_of frame)

-- The frame of the request that a `take` of `piece` hands to the application, if there is one. There is none if the
-- connection has the reason `stop` afterwards, since nobody can respond on it.
abbrev pub handed_on : ServerValue → List ℕ → Option SessionValue → Option Reason → Option (List ℕ)
handed_on v piece None stop = None
handed_on v piece (Some s) None = handed v.shared s piece
handed_on v piece (Some s) (Some why) = None

-- The same for the connection with this id.
unfoldable pub handed_frame : ServerValue → ℕ → List ℕ → Option (List ℕ)
handed_frame v id piece =
    handed_on v piece (session_of id v.sessions) (stop_on (session_of id (server_taken v id piece).sessions))

-- The request that a `take` of `piece` hands to the application.
abbrev pub handed_by : ServerValue → ℕ → List ℕ → Option Message
handed_by v id piece = option_and_then frame_message (handed_frame v id piece)

-- States the server after a `take_request`: that after the take, or after one that failed, with the events
-- that it shows.
abbrev pub IsTakenRequest : ServerValue → ℕ → List ℕ → Result TakenRequest TakeFault → ServerValue → Type 0
IsTakenRequest v id piece (Ok t) after =
    (after ≡ server_taken v id piece)
    × ((events : List AcceptedCall) → Shows v events → Shows after (events ++ Took id (take t.taken.bytes piece) ∷ []))
IsTakenRequest v id piece (Err fault) after =
    IsNotTaken v id piece fault after
    × ((events : List AcceptedCall) → Shows v events → ShowsRefused events id piece fault after)
