-- Defined by this project: the state of a client, and the effect of each call on that state.
use Rattle.std.specs.Prelude.{◌≡◌, ◌<◌, ℕ, Bool, true, false, ◌&&◌, List, [], length, Option, Some, None, Result, Ok}
use Rattle.std.specs.Prelude.{Err, nat_le, nat_lt, if◌then◌else◌}
use Rattle.coap_wire.specs.Message.{Message}
use Rattle.coap_wire.specs.Reading.{message_of}
use Rattle.coap_wire.specs.Spelling.{spelling}
use Rattle.coap_wire.specs.Recognition.{first_critical}
use Rattle.coap_wire.specs.Stream.{OfFrame}
use Rattle.coap_wire.specs.declared.fault.FormatFault.{FormatFault}
use Rattle.coap_wire.specs.declared.sizes.TheConstants.{LARGEST_MESSAGE}
use Rattle.coap_frame.specs.Framing.{Framing, FrameEventValue, Nothing, AFrame, AFault, found_frame, framing}
use Rattle.coap_conn.specs.declared.reason.Reason.{Reason}
use Rattle.coap_conn.specs.declared.phase.Role.TheVariants.{Client}
use Rattle.coap_conn.specs.declared.phase.Reject.{Reject}
use Rattle.coap_conn.specs.declared.phase.Reject.TheVariants as reject
use Rattle.coap_conn.specs.declared.phase.RequestFault.{RequestFault}
use Rattle.coap_conn.specs.declared.phase.RequestFault.TheVariants.{TooBig}
use Rattle.coap_conn.specs.Limits.{LimitValues}
use Rattle.coap_conn.specs.Phases.{takes_messages, is_open}
use Rattle.coap_conn.specs.Fit.{fits}
use Rattle.coap_conn.specs.Rejects.{reject_of, reject_reason}
use Rattle.coap_conn.specs.Verdicts.{VerdictValue}
use Rattle.coap_conn.specs.Verdicts as verdict
use Rattle.coap_conn.specs.Reaction.{react}
use Rattle.coap_conn.specs.RequestState.{else_refusal, new_refusal, asking_refusal, observation_refusal, cancel_refusal}
use Rattle.coap_conn.specs.RequestState.{next_token, with_token, ping_with}
use Rattle.coap_conn.specs.LinkValue.{LinkValue, new_link, free_in, limit_in, state_in, asking_in, own_csm}
use Rattle.coap_conn.specs.Calls.{link_after}
use Rattle.coap_conn.specs.Calls as call
use Rattle.coap_client_request.specs.declared.request.Method.{Method}
use Rattle.coap_client_request.specs.Targets.{TargetValue}
use Rattle.coap_client_request.specs.Requests.{ExtrasValue, request_of, cancel_of, is_too_long, has_long_extra}
use Rattle.coap_client_engine.specs.declared.client.signals.ClientAnnounceFault.{ClientAnnounceFault}
use Rattle.coap_client_engine.specs.declared.client.signals.ClientAnnounceFault.TheVariants as announcing

-- The state of a client: the bytes of an unfinished frame, and the link.
pub record ClientValue : Type 0 where
  pub frame : List ℕ
  pub link : LinkValue

-- The size of the largest message that the client accepts, in bytes, as announced last.
abbrev pub client_max : ClientValue → ℕ
client_max v = v.link.own_max

-- A new client, whose Capabilities and Settings Message (CSM) is queued. The first token encodes the number after
-- `tokens`.
abbrev pub new_client : LimitValues → ℕ → ClientValue
new_client limits tokens = record { frame = []; link = new_link Client limits tokens }

-- True if the client accepts bytes: the phase accepts messages, and the queue has room for a message of maximum size.
abbrev pub client_takes : ClientValue → Bool
client_takes v = takes_messages v.link.phase && nat_le v.link.limits.max_sent (free_in v.link)

-- ---- events

-- The event that a `take` reports. `Ready` is the peer's first CSM. `Response` is the last response to a request or an
-- observation, and `Notification` is a response that more may follow. `Rejected` is a response with a critical option
-- that is not recognised, given by its token and the number of that option. `Stranger` is a response or Pong that
-- matches nothing outstanding. `Stopped` is a stop of the connection, or its release by the peer.
pub data ClientEventValue : Type 0 where
  Ready : ClientEventValue
  Response : (m : Message) → ClientEventValue
  Notification : (m : Message) → ClientEventValue
  Rejected : (token : List ℕ) (number : ℕ) → ClientEventValue
  Pong : (token : List ℕ) (custody : Bool) → ClientEventValue
  Stranger : ClientEventValue
  Stopped : (why : Reason) → ClientEventValue

-- The event of a response. If a critical option is not recognised, the response is rejected (RFC 7252 section 5.4.1).
abbrev pub response_event : Message → List ℕ → Bool → Option ℕ → ClientEventValue
response_event m token last (Some number) = Rejected token number
response_event m token true None = Response m
response_event m token false None = Notification m

-- The event of a message, by the verdict of the link.
abbrev pub verdict_event : Message → VerdictValue → Option ClientEventValue
verdict_event m verdict.Opened = Some Ready
verdict_event m verdict.Done = None
verdict_event m verdict.Request = None
verdict_event m (verdict.Answer token last) = Some (response_event m token last (first_critical m.options))
verdict_event m (verdict.Pong token custody) = Some (Pong token custody)
verdict_event m verdict.Stranger = Some Stranger
verdict_event m (verdict.Stopped why) = Some (Stopped why)

-- ---- take

-- The result of a `take`: the number of accepted bytes, the client after it, and the event.
pub record ClientTakeOutcome : Type 0 where
  pub count : ℕ
  pub client : ClientValue
  pub event : Option ClientEventValue

-- The result of a `take` of malformed bytes: the connection stops with the reason of the error.
abbrev pub taking_rejected : ClientValue → ℕ → Reject → ClientTakeOutcome
taking_rejected v count fault = record {
  count = count;
  client = record { frame = []; link = link_after v.link (call.Reject fault) };
  event = Some (Stopped (reject_reason fault));
}

-- The result of a `take` that completes a frame, by the result of parsing that frame.
abbrev pub taking_read : ClientValue → ℕ → Result Message FormatFault → ClientTakeOutcome
taking_read v count (Ok m) = record {
  count = count;
  client = record { frame = []; link = link_after v.link (call.Handle m) };
  event = verdict_event m (react (state_in v.link) m).verdict;
}
taking_read v count (Err e) = taking_rejected v count reject.Format

-- The result of a `take`, by what the framer found in the bytes: nothing, a frame or an error.
abbrev pub taking_found : ClientValue → Framing → FrameEventValue → ClientTakeOutcome
taking_found v f Nothing = record { count = f.taken; client = record v { frame = f.kept }; event = None }
taking_found v f (AFault fault) = taking_rejected v f.taken (reject_of (OfFrame fault))
taking_found v f (AFrame frame) = taking_read v f.taken (message_of frame)

-- The result of a `take` of `piece`. No byte is accepted if `client_takes` is false.
unfoldable pub taking : ClientValue → List ℕ → ClientTakeOutcome
taking v piece =
    if client_takes v
    then taking_found v (framing (client_max v) v.frame piece) (framing (client_max v) v.frame piece).finding
    else record { count = 0; client = v; event = None }

-- The frame that ends with the bytes accepted of `piece`, if one does.
unfoldable pub completed : ClientValue → List ℕ → Option (List ℕ)
completed v piece = if client_takes v then found_frame (framing (client_max v) v.frame piece).finding else None

-- ---- the other calls

-- True if bytes of an unfinished frame are buffered.
abbrev pub is_cut : List ℕ → Bool
is_cut rest = nat_lt 0 (length rest)

abbrev pub client_written : ClientValue → ℕ → ClientValue
client_written v n = record v { link = link_after v.link (call.Written n) }

abbrev pub client_ended : ClientValue → ClientValue
client_ended v = record { frame = []; link = link_after v.link (call.End (is_cut v.frame)) }

abbrev pub client_sent : ClientValue → Method → TargetValue → ExtrasValue → ClientValue
client_sent v method target extras = record v {
  link = link_after v.link (call.Request (request_of method target extras) extras.observe);
}

abbrev pub client_cancelled : ClientValue → List ℕ → TargetValue → ExtrasValue → ClientValue
client_cancelled v token target extras =
    record v { link = link_after v.link (call.Cancel token (cancel_of target extras)) }

abbrev pub client_pinged : ClientValue → Bool → ClientValue
client_pinged v custody = record v { link = link_after v.link (call.Ping custody) }

-- The client after it forgot the request, observation or Ping with this token. No byte is queued.
abbrev pub client_forgotten : ClientValue → List ℕ → ClientValue
client_forgotten v token = record v { link = link_after v.link (call.Forget token) }

-- The client after it released the connection (RFC 8323 section 5.5).
abbrev pub client_released : ClientValue → ClientValue
client_released v = record { frame = []; link = link_after v.link call.Release }

-- The client after it announced a Max-Message-Size (RFC 8323 section 5.3.1). Bytes of an unfinished frame stay.
abbrev pub client_announced : ClientValue → ℕ → ClientValue
client_announced v size = record v { link = link_after v.link (call.Announce size) }

-- ---- refusals

-- The error of a refused request. If no earlier check fails, extras that are too long give `TooBig`, whatever size the
-- peer accepts.
abbrev pub send_refusal : LinkValue → Method → TargetValue → ExtrasValue → Option RequestFault
send_refusal l method target extras =
    if is_too_long extras then else_refusal (new_refusal (asking_in l)) (Some TooBig)
    else asking_refusal (asking_in l) (with_token (request_of method target extras) (next_token l.tokens))

-- The error of a refused cancellation. The payload of the extras does not count, because a cancellation has none.
abbrev pub cancelling_refusal : LinkValue → List ℕ → TargetValue → ExtrasValue → Option RequestFault
cancelling_refusal l token target extras =
    if has_long_extra extras then else_refusal (observation_refusal (asking_in l) token) (Some TooBig)
    else cancel_refusal (asking_in l) token (with_token (cancel_of target extras) token)

-- The error of a refused Ping.
abbrev pub ping_refusal : LinkValue → Bool → Option RequestFault
ping_refusal l custody = asking_refusal (asking_in l) (ping_with custody (next_token l.tokens))

-- The error of a refused announcement, apart from memory. The checks are, in this order: phase, lower bound, upper
-- bound, room in the queue for a message of maximum size, fit of the CSM.
abbrev pub announce_refusal : LinkValue → ℕ → Option ClientAnnounceFault
announce_refusal l size =
    if is_open l.phase
    then (if nat_lt size l.own_max
    then Some announcing.Lower
    else (if nat_lt LARGEST_MESSAGE size
    then Some announcing.TooLarge
    else (if nat_le l.limits.max_sent (free_in l)
    then (if fits (limit_in l) (own_csm size) then None else Some announcing.PeerTooSmall)
    else Some announcing.NoRoom)))
    else Some announcing.NotOpen

-- States the results that an announcement may have: success if there is no refusal, otherwise the refusal. `Memory` is
-- possible if there is no refusal and the size is larger than the current one.
abbrev pub IsAnnounceAnswer : {T : Type 0} → LinkValue → ℕ → Result T ClientAnnounceFault → Type 0
IsAnnounceAnswer l size (Ok done) = announce_refusal l size ≡ None
IsAnnounceAnswer l size (Err announcing.Memory) = (announce_refusal l size ≡ None) × (l.own_max < size)
IsAnnounceAnswer l size (Err fault) = announce_refusal l size ≡ Some fault

-- ---- sizes of messages

-- The token of the request of a run: the first one of its client, which encodes the number 1.
abbrev pub first_token : List ℕ
first_token = next_token 0

-- The length of the encoded message, unless a part of it is too long.
abbrev pub size_unless : Bool → Message → Option ℕ
size_unless too_long m = if too_long then None else Some (length (spelling m))

-- The length of the encoded request with that token. None if its extra option or its payload is too long.
abbrev pub request_size : Method → TargetValue → ExtrasValue → Option ℕ
request_size method target extras =
    size_unless (is_too_long extras) (with_token (request_of method target extras) first_token)

-- The length of the encoded message that cancels the observation with a token. None if its extra option is too long.
abbrev pub cancellation_size : List ℕ → TargetValue → ExtrasValue → Option ℕ
cancellation_size token target extras = size_unless (has_long_extra extras) (with_token (cancel_of target extras) token)
