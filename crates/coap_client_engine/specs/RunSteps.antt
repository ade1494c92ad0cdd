-- Defined by this project: the results of the steps of a client's run.
use Rattle.std.specs.Prelude.{ℕ, ◌-◌, ◌==◌, nat_le, Bool, true, false, List, [], ◌∷◌, length, Option, Some, None}
use Rattle.std.specs.Prelude.{unwrap_or, if◌then◌else◌}
use Rattle.coap_wire.specs.Codes.{class_of}
use Rattle.coap_conn.specs.Phases.{stop_of}
use Rattle.coap_conn.specs.declared.reason.Reason.{Reason}
use Rattle.coap_conn.specs.declared.reason.Reason.TheVariants as reason
use Rattle.coap_conn.specs.declared.phase.Phase.{Phase}
use Rattle.coap_conn.specs.declared.phase.Phase.TheVariants.{Waiting, Open, Releasing}
use Rattle.coap_conn.specs.declared.phase.Phase.TheVariants as phase
use Rattle.coap_conn.specs.declared.phase.RequestFault.{RequestFault}
use Rattle.coap_conn.specs.declared.phase.RequestFault.TheVariants.{NotOpen, TooMany, TooBig, NoRoom, TokensSpent}
use Rattle.coap_conn.specs.declared.phase.RequestFault.TheVariants.{NoSuchToken}
use Rattle.coap_client_engine.specs.ClientValues.{ClientValue, client_takes, send_refusal, client_sent}
use Rattle.coap_client_engine.specs.ClientValues.{ClientEventValue, Ready, Response, Notification, Rejected, Pong}
use Rattle.coap_client_engine.specs.ClientValues.{Stranger, Stopped}
use Rattle.coap_client_engine.specs.ClientValues as value
use Rattle.coap_client_engine.specs.ClientWorld.{ClientCall, Wrote, Ended}
use Rattle.coap_io.specs.declared.wire.Got.{Got}
use Rattle.coap_io.specs.declared.wire.Got.TheVariants.{Bytes, Later, End, Failed}
use Rattle.coap_conn.specs.RequestState.{next_token}
use Rattle.coap_client_request.specs.RequestViews.{planned_extras}
use Rattle.coap_client_engine.specs.RunTexts.{stop_line, fault_line, option_line, response_line, payload_text}
use Rattle.coap_client_request.specs.declared.plan.ClientPlan.{ClientPlan}
use Rattle.coap_client_engine.specs.declared.run.state.EventOutcome.{EventOutcome}
use Rattle.coap_client_engine.specs.declared.run.state.EventOutcome.TheVariants.{Nothing, Notified, Ended}

-- True if at least `seconds` seconds have passed between `since` and `now`. If `now` is earlier than `since`, no time
-- has passed.
abbrev pub has_passed : ℕ → ℕ → ℕ → Bool
has_passed now since seconds = nat_le seconds (now - since)

-- The exit status of a run that has waited since `since`, if `wait` seconds have passed.
abbrev pub timeout_status : ℕ → ℕ → ℕ → Option ℕ
timeout_status now since wait = if has_passed now since wait then Some 4 else None

-- True if the request must be sent: the connection is open, and the request was not sent before.
abbrev pub must_send_request : {T : Type 0} → Phase → Option T → Bool
must_send_request Waiting token = false
must_send_request Open None = true
must_send_request Open (Some token) = false
must_send_request (Releasing reason) token = false
must_send_request (phase.Stopped reason) token = false

-- True if more input can be processed: input is left, no request must be sent first, and the client accepts bytes.
abbrev pub may_take : {T : Type 0} → ClientValue → List ℕ → Option T → Bool
may_take client rest token =
    if length rest == 0 then false
    else (if must_send_request client.link.phase token then false else client_takes client)

-- The error of the request, if it must be sent and is refused.
abbrev pub asking_refusal : {T : Type 0} → ClientValue → Option T → ClientPlan → Option RequestFault
asking_refusal client token plan =
    if must_send_request client.link.phase token
    then send_refusal client.link plan.method plan.target (planned_extras plan) else None

-- The value `sent` if nothing was refused, otherwise the value `before`.
abbrev pub unless_refused : {A : Type 0} → Option RequestFault → A → A → A
unless_refused None sent before = sent
unless_refused (Some refusal) sent before = before

-- The client after the request was sent. Nothing changes if the request must not be sent or is refused.
abbrev pub client_asking : {T : Type 0} → ClientValue → Option T → ClientPlan → ClientValue
client_asking client token plan =
    if must_send_request client.link.phase token then
    unless_refused (send_refusal client.link plan.method plan.target (planned_extras plan))
    (client_sent client plan.method plan.target (planned_extras plan)) client
    else client

-- The token of the request after the request was sent, with the same exceptions.
abbrev pub token_asking : ClientValue → Option (List ℕ) → ClientPlan → Option (List ℕ)
token_asking client token plan =
    if must_send_request client.link.phase token then
    unless_refused (send_refusal client.link plan.method plan.target (planned_extras plan))
    (Some (next_token client.link.tokens)) token
    else token

-- The error of the cancellation, if the token is known and the cancellation is refused.
abbrev pub cancelling_refusal : ClientValue → Option (List ℕ) → ClientPlan → Option RequestFault
cancelling_refusal client None plan = None
cancelling_refusal client (Some token) plan =
    value.cancelling_refusal client.link token plan.target (planned_extras plan)

-- The calls of the client that a read leads to: at the end of the input, `Ended`.
abbrev pub calls_read : Got → List ClientCall
calls_read (Bytes n) = []
calls_read Later = []
calls_read End = Ended ∷ []
calls_read Failed = []

-- The client after a read.
abbrev pub client_read : ClientValue → Got → ClientValue
client_read client (Bytes n) = client
client_read client Later = client
client_read client End = value.client_ended client
client_read client Failed = client

-- The reason if a read ends the run: the input has ended, or the wire has failed.
abbrev pub stop_after : Phase → Got → Option Reason
stop_after phase (Bytes n) = None
stop_after phase Later = None
stop_after phase End = stop_of phase
stop_after phase Failed = Some reason.Ended

-- The reason if a write ends the run: the wire failed, and the run had not ended before.
abbrev pub stop_written : Option ℕ → Got → Option Reason
stop_written None (Bytes n) = None
stop_written None Later = None
stop_written None End = Some reason.Ended
stop_written None Failed = Some reason.Ended
stop_written (Some status) got = None

-- The calls of the client that a write leads to.
abbrev pub calls_written : Got → List ClientCall
calls_written (Bytes n) = Wrote n ∷ []
calls_written Later = []
calls_written End = []
calls_written Failed = []

-- The client after the observation was cancelled. Nothing changes if the token is not known or the cancellation is
-- refused.
abbrev pub client_cancelling : ClientValue → Option (List ℕ) → ClientPlan → ClientValue
client_cancelling client None plan = client
client_cancelling client (Some token) plan =
    unless_refused (value.cancelling_refusal client.link token plan.target (planned_extras plan))
    (value.client_cancelled client token plan.target (planned_extras plan)) client

-- The time of the cancellation, after an attempt to cancel the observation at the time `moment`.
abbrev pub cancelled_at : {T : Type 0} → Option T → Option RequestFault → ℕ → Option ℕ → Option ℕ
cancelled_at None refusal moment before = before
cancelled_at (Some token) None moment before = Some moment
cancelled_at (Some token) (Some refusal) moment before = before

-- True if the seconds of the observation have passed since the first notification, and it was not cancelled (RFC 7641
-- section 3.6).
abbrev pub is_to_cancel : Option ℕ → Option ℕ → ℕ → Option ℕ → Bool
is_to_cancel (Some cancelled) first moment observe = false
is_to_cancel None None moment observe = false
is_to_cancel None (Some first) moment observe = has_passed moment first (unwrap_or observe 0)

-- The exit status that the deadlines give. The run waits for its first response from its start, and for its last one
-- from the cancellation. If the cancellation is refused, the status is `refused`.
abbrev pub watched : Option ℕ → Option ℕ → ℕ → ℕ → ClientPlan → Option ℕ → Option ℕ
watched (Some cancelled) first started moment plan refused = timeout_status moment cancelled plan.wait
watched None None started moment plan refused = timeout_status moment started plan.wait
watched None (Some first) started moment plan refused =
    if is_to_cancel None (Some first) moment plan.observe then refused else None

-- The exit status after a refusal: 3, or none if the queue has no room, because the run then tries again.
abbrev pub ended_by : Option RequestFault → Option ℕ
ended_by None = None
ended_by (Some NotOpen) = Some 3
ended_by (Some TooMany) = Some 3
ended_by (Some TooBig) = Some 3
ended_by (Some NoRoom) = None
ended_by (Some TokensSpent) = Some 3
ended_by (Some NoSuchToken) = Some 3

-- The text that the run writes for a refusal.
abbrev pub refusal_text : Option RequestFault → List ℕ
refusal_text None = []
refusal_text (Some NotOpen) = fault_line NotOpen
refusal_text (Some TooMany) = fault_line TooMany
refusal_text (Some TooBig) = fault_line TooBig
refusal_text (Some NoRoom) = []
refusal_text (Some TokensSpent) = fault_line TokensSpent
refusal_text (Some NoSuchToken) = fault_line NoSuchToken

-- The exit status after a last response: 0 if its code is 2.xx, otherwise 2.
abbrev pub response_status : ℕ → ℕ
response_status code = if class_of code == 2 then 0 else 2

-- The effect of an event on the run.
abbrev pub outcome_of : ClientEventValue → EventOutcome
outcome_of Ready = Nothing
outcome_of (Response m) = Ended (response_status m.code)
outcome_of (Notification m) = Notified
outcome_of (Rejected token number) = Ended 2
outcome_of (Pong token custody) = Nothing
outcome_of Stranger = Nothing
outcome_of (Stopped reason) = Ended 3

-- The bytes that the run writes to the outlet for payloads.
abbrev pub output_of : ClientEventValue → ClientPlan → List ℕ
output_of Ready plan = []
output_of (Response m) plan = if class_of m.code == 2 then payload_text m.payload plan else []
output_of (Notification m) plan = payload_text m.payload plan
output_of (Rejected token number) plan = []
output_of (Pong token custody) plan = []
output_of Stranger plan = []
output_of (Stopped reason) plan = []

-- The bytes that the run writes to the outlet for reports.
abbrev pub errors_of : ClientEventValue → List ℕ
errors_of Ready = []
errors_of (Response m) = if class_of m.code == 2 then [] else response_line m.code m.payload
errors_of (Notification m) = []
errors_of (Rejected token number) = option_line number
errors_of (Pong token custody) = []
errors_of Stranger = []
errors_of (Stopped reason) = stop_line reason

-- The exit status, if the effect ends the run.
abbrev pub outcome_status : EventOutcome → Option ℕ
outcome_status Nothing = None
outcome_status Notified = None
outcome_status (Ended status) = Some status

-- The time of the first notification, after an effect at the time `moment`.
abbrev pub outcome_first : EventOutcome → Option ℕ → ℕ → Option ℕ
outcome_first Nothing first moment = first
outcome_first Notified None moment = Some moment
outcome_first Notified (Some first) moment = Some first
outcome_first (Ended status) first moment = first

-- ---- the same for accepted bytes, which have an event or none

abbrev pub event_status : Option ClientEventValue → Option ℕ
event_status None = None
event_status (Some event) = outcome_status (outcome_of event)

abbrev pub event_first : Option ClientEventValue → Option ℕ → ℕ → Option ℕ
event_first None first moment = first
event_first (Some event) first moment = outcome_first (outcome_of event) first moment

abbrev pub event_output : Option ClientEventValue → ClientPlan → List ℕ
event_output None plan = []
event_output (Some event) plan = output_of event plan

abbrev pub event_errors : Option ClientEventValue → List ℕ
event_errors None = []
event_errors (Some event) = errors_of event
