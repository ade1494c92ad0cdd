-- Defined by this project: the frame that an input slice completes, and the request that it hands to the application.
-- The application then may respond to it.
use Rattle.std.specs.Prelude.{ℕ, Bool, true, false, ◌&&◌, List, Option, Some, None, Result, Ok, Err, if◌then◌else◌}
use Rattle.coap_wire.specs.Message.{Message}
use Rattle.coap_wire.specs.Reading.{message_of}
use Rattle.coap_wire.specs.declared.fault.FormatFault.{FormatFault}
use Rattle.coap_frame.specs.Framing.{FrameEventValue, Nothing, AFrame, AFault, found_frame, framing}
use Rattle.coap_conn.specs.LinkValue.{LinkValue}
use Rattle.coap_conn.specs.Calls.{link_after}
use Rattle.coap_conn.specs.Calls as call
use Rattle.coap_conn.specs.declared.pending.Responder.{Responder}
use Rattle.coap_conn.specs.declared.pending.Responder.TheVariants.{Engine, Application}
use Rattle.coap_model.specs.world.Connections.{Delay}
use Rattle.coap_server_session.specs.declared.server_state.ServerState.{ServerState}
use Rattle.coap_server_session.specs.values.Sessions.{SessionValue, session_takes, session_max, asks_this, delay_on}
use Rattle.coap_server_session.specs.values.Sessions.{delay_in}

-- `true` if the application responds, and not the engine.
abbrev pub is_application : Responder → Bool
is_application Engine = false
is_application Application = true

-- `true` if a response is delayed until the application responds.
abbrev pub is_handed : Option Delay → Bool
is_handed None = false
is_handed (Some d) = is_application d.by

-- `true` if a message is a request that becomes a pending entry of the application. The engine does not answer it, and
-- the pending list has room.
abbrev pub is_handed_over : ServerState → LinkValue → Message → Bool
is_handed_over shared l m = asks_this l m && is_handed (delay_in (link_after l (call.Handle m)) (delay_on shared m))

-- A frame, if its message is handed to the application.
abbrev pub handed_read : ServerState → SessionValue → List ℕ → Result Message FormatFault → Option (List ℕ)
handed_read shared v frame (Ok m) = if is_handed_over shared v.link m then Some frame else None
handed_read shared v frame (Err e) = None

-- The same, by the result of the framer.
abbrev pub handed_found : ServerState → SessionValue → FrameEventValue → Option (List ℕ)
handed_found shared v Nothing = None
handed_found shared v (AFault fault) = None
handed_found shared v (AFrame frame) = handed_read shared v frame (message_of frame)

-- The first frame that an input slice completes, if its message is handed to the application.
unfoldable pub handed : ServerState → SessionValue → List ℕ → Option (List ℕ)
handed shared v piece =
    if session_takes v then handed_found shared v (framing (session_max v) v.frame piece).finding else None

-- The first frame that an input slice completes, if the connection accepts bytes.
unfoldable pub completed : SessionValue → List ℕ → Option (List ℕ)
completed v piece = if session_takes v then found_frame (framing (session_max v) v.frame piece).finding else None
