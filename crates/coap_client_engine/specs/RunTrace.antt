-- Defined by this project: the trace of a client's run, which lists its events in order, and the rules that a trace
-- follows.
use Rattle.std.specs.Prelude.{◌≡◌, ◌≢◌, ◌+◌, ℕ, max, nat_lt, Bool, true, false, ◌&&◌, ◌⊎◌, List, [], ◌∷◌, ◌++◌, length}
use Rattle.std.specs.Prelude.{take, drop, Option, Some, None}
use Rattle.std.specs.List.{flat_map}
use Rattle.coap_conn.specs.RequestState.{next_token}
use Rattle.coap_conn.specs.History.{History}
use Rattle.coap_conn.specs.Limits.{default_limits}
use Rattle.coap_conn.specs.declared.phase.Phase.{Phase}
use Rattle.coap_conn.specs.declared.phase.RequestFault.{RequestFault}
use Rattle.coap_conn.specs.declared.reason.Reason.{Reason}
use Rattle.coap_io.specs.declared.wire.Got.{Got}
use Rattle.coap_io.specs.streams.Wires.{bytes_passed, count_passed}
use Rattle.coap_client_engine.specs.ClientValues.{ClientValue, client_takes, ClientEventValue}
use Rattle.coap_client_engine.specs.ClientWorld.{ClientCall, Took, Sent, Cancelled, Pinged, Forgot, Released, Wrote}
use Rattle.coap_client_engine.specs.ClientWorld.{Announced, Ended, taken_by}
use Rattle.coap_client_engine.specs.ClientWorld.{client_after, client_of, takes, event_of}
use Rattle.coap_client_engine.specs.RunTexts.{stop_line}
use Rattle.coap_client_engine.specs.RunSteps.{has_passed, must_send_request, is_to_cancel}
use Rattle.coap_client_engine.specs.RunSteps.{asking_refusal, cancelling_refusal, ended_by, refusal_text, event_status}
use Rattle.coap_client_engine.specs.RunSteps.{event_first, event_output, event_errors, stop_after, stop_written}
use Rattle.coap_client_engine.specs.RunSteps.{calls_read, calls_written}
use Rattle.coap_client_request.specs.RequestViews.{planned_extras}
use Rattle.coap_client_request.specs.declared.plan.ClientPlan.{ClientPlan}

-- A trace of a run. Each event follows the trace `before` it.
pub data RunTrace : Type 0 where
  -- The run begins, and the clock gives this time.
  Begins : (moment : ℕ) → RunTrace
  -- An iteration begins, and the clock gives this time.
  Turns : (before : RunTrace) (moment : ℕ) → RunTrace
  -- A read of the wire has this result, and gives these bytes.
  Reads : (before : RunTrace) (got : Got) (bytes : List ℕ) → RunTrace
  -- The client accepts a call.
  Calls : (before : RunTrace) (call : ClientCall) → RunTrace
  -- The client refuses the request or its cancellation.
  Refuses : (before : RunTrace) (fault : RequestFault) → RunTrace
  -- The run has waited long enough, and gives up.
  GivesUp : (before : RunTrace) → RunTrace
  -- Nothing more is to be done in this iteration, except to write queued bytes.
  Rests : (before : RunTrace) → RunTrace
  -- A write of queued bytes has this result.
  Writes : (before : RunTrace) (got : Got) → RunTrace

-- ---- the client

-- The calls that the client accepted.
abbrev pub calls_in : RunTrace → List ClientCall
calls_in (Begins moment) = []
calls_in (Turns before moment) = calls_in before
calls_in (Reads before got bytes) = calls_in before ++ calls_read got
calls_in (Calls before call) = calls_in before ++ call ∷ []
calls_in (Refuses before fault) = calls_in before
calls_in (GivesUp before) = calls_in before
calls_in (Rests before) = calls_in before
calls_in (Writes before got) = calls_in before ++ calls_written got

-- The client after the trace. It has the default limits, and its first token encodes the number 1.
abbrev pub client_in : RunTrace → ClientValue
client_in trace = client_of default_limits 0 (calls_in trace)

-- The history of the connection after the trace.
abbrev pub history_in : RunTrace → History
history_in trace = client_after default_limits 0 (calls_in trace)

-- The phase of the connection after the trace.
abbrev pub phase_in : RunTrace → Phase
phase_in trace = (client_in trace).link.phase

-- The bytes queued for writing.
abbrev pub waiting_in : RunTrace → List ℕ
waiting_in trace = (client_in trace).link.waiting

-- The event of a call after the trace.
abbrev pub event_in : RunTrace → ClientCall → Option ClientEventValue
event_in trace call = event_of default_limits 0 (calls_in trace) call

-- The token of the request after a call.
abbrev pub token_by : ClientCall → ClientValue → Option (List ℕ) → Option (List ℕ)
token_by (Took bytes) client before = before
token_by (Sent method target extras) client before = Some (next_token client.link.tokens)
token_by (Cancelled token target extras) client before = before
token_by (Pinged custody) client before = before
token_by (Forgot token) client before = before
token_by Released client before = before
token_by (Announced size) client before = before
token_by (Wrote n) client before = before
token_by Ended client before = before

-- The token of the request, after it was sent.
abbrev pub token_in : RunTrace → Option (List ℕ)
token_in (Begins moment) = None
token_in (Turns before moment) = token_in before
token_in (Reads before got bytes) = token_in before
token_in (Calls before call) = token_by call (client_in before) (token_in before)
token_in (Refuses before fault) = token_in before
token_in (GivesUp before) = token_in before
token_in (Rests before) = token_in before
token_in (Writes before got) = token_in before

-- ---- times

-- The times that the clock gave.
abbrev pub moments_in : RunTrace → List ℕ
moments_in (Begins moment) = moment ∷ []
moments_in (Turns before moment) = moments_in before ++ moment ∷ []
moments_in (Reads before got bytes) = moments_in before
moments_in (Calls before call) = moments_in before
moments_in (Refuses before fault) = moments_in before
moments_in (GivesUp before) = moments_in before
moments_in (Rests before) = moments_in before
moments_in (Writes before got) = moments_in before

-- The number of iterations that began.
abbrev pub turns_in : RunTrace → ℕ
turns_in (Begins moment) = 0
turns_in (Turns before moment) = turns_in before + 1
turns_in (Reads before got bytes) = turns_in before
turns_in (Calls before call) = turns_in before
turns_in (Refuses before fault) = turns_in before
turns_in (GivesUp before) = turns_in before
turns_in (Rests before) = turns_in before
turns_in (Writes before got) = turns_in before

-- The time of the last iteration. If the clock goes back, the time stays the same.
abbrev pub moment_in : RunTrace → ℕ
moment_in (Begins moment) = moment
moment_in (Turns before moment) = max (moment_in before) moment
moment_in (Reads before got bytes) = moment_in before
moment_in (Calls before call) = moment_in before
moment_in (Refuses before fault) = moment_in before
moment_in (GivesUp before) = moment_in before
moment_in (Rests before) = moment_in before
moment_in (Writes before got) = moment_in before

-- The time at which the run began.
abbrev pub started_in : RunTrace → ℕ
started_in (Begins moment) = moment
started_in (Turns before moment) = started_in before
started_in (Reads before got bytes) = started_in before
started_in (Calls before call) = started_in before
started_in (Refuses before fault) = started_in before
started_in (GivesUp before) = started_in before
started_in (Rests before) = started_in before
started_in (Writes before got) = started_in before

-- The time of the first notification.
abbrev pub first_in : RunTrace → Option ℕ
first_in (Begins moment) = None
first_in (Turns before moment) = first_in before
first_in (Reads before got bytes) = first_in before
first_in (Calls before call) = event_first (event_in before call) (first_in before) (moment_in before)
first_in (Refuses before fault) = first_in before
first_in (GivesUp before) = first_in before
first_in (Rests before) = first_in before
first_in (Writes before got) = first_in before

-- The time at which the observation was cancelled, after a call.
abbrev pub cancelled_by : ClientCall → ℕ → Option ℕ → Option ℕ
cancelled_by (Took bytes) moment before = before
cancelled_by (Sent method target extras) moment before = before
cancelled_by (Cancelled token target extras) moment before = Some moment
cancelled_by (Pinged custody) moment before = before
cancelled_by (Forgot token) moment before = before
cancelled_by Released moment before = before
cancelled_by (Announced size) moment before = before
cancelled_by (Wrote n) moment before = before
cancelled_by Ended moment before = before

-- The time at which the observation was cancelled.
abbrev pub cancelled_in : RunTrace → Option ℕ
cancelled_in (Begins moment) = None
cancelled_in (Turns before moment) = cancelled_in before
cancelled_in (Reads before got bytes) = cancelled_in before
cancelled_in (Calls before call) = cancelled_by call (moment_in before) (cancelled_in before)
cancelled_in (Refuses before fault) = cancelled_in before
cancelled_in (GivesUp before) = cancelled_in before
cancelled_in (Rests before) = cancelled_in before
cancelled_in (Writes before got) = cancelled_in before

-- The time since which the run waits for a response: its start until the first notification, or the cancellation after
-- it was sent. In between, there is none.
abbrev pub waits_since : (cancelled first : Option ℕ) → ℕ → Option ℕ
waits_since (Some cancelled) first started = Some cancelled
waits_since None (Some first) started = None
waits_since None None started = Some started

-- The time since which the run waits, after the trace.
abbrev pub since_in : RunTrace → Option ℕ
since_in trace = waits_since (cancelled_in trace) (first_in trace) (started_in trace)

-- True if the run has waited for `wait` seconds.
abbrev pub is_late_since : Option ℕ → ℕ → ℕ → Bool
is_late_since None moment wait = false
is_late_since (Some since) moment wait = has_passed moment since wait

-- True if the run has waited for a response as long as the plan allows.
abbrev pub is_late : ClientPlan → RunTrace → Bool
is_late plan trace = is_late_since (since_in trace) (moment_in trace) plan.wait

-- True if the run has waited for `wait` seconds, and began to wait before the current time.
abbrev pub is_overdue_since : Option ℕ → ℕ → ℕ → Bool
is_overdue_since None moment wait = false
is_overdue_since (Some since) moment wait = nat_lt since moment && has_passed moment since wait

-- True if the run has waited as long as the plan allows, and began to wait before the current time.
abbrev pub is_overdue : ClientPlan → RunTrace → Bool
is_overdue plan trace = is_overdue_since (since_in trace) (moment_in trace) plan.wait

-- True if the observation must be cancelled.
abbrev pub is_cancel_due : ClientPlan → RunTrace → Bool
is_cancel_due plan trace = is_to_cancel (cancelled_in trace) (first_in trace) (moment_in trace) plan.observe

-- ---- the wire

-- The results of its reads and writes.
abbrev pub answers_in : RunTrace → List Got
answers_in (Begins moment) = []
answers_in (Turns before moment) = answers_in before
answers_in (Reads before got bytes) = answers_in before ++ got ∷ []
answers_in (Calls before call) = answers_in before
answers_in (Refuses before fault) = answers_in before
answers_in (GivesUp before) = answers_in before
answers_in (Rests before) = answers_in before
answers_in (Writes before got) = answers_in before ++ got ∷ []

-- The bytes that the client accepted.
abbrev pub taken_in : RunTrace → List ℕ
taken_in trace = flat_map taken_by (calls_in trace)

-- The bytes that the reads gave.
abbrev pub given_in : RunTrace → List ℕ
given_in (Begins moment) = []
given_in (Turns before moment) = given_in before
given_in (Reads before got bytes) = given_in before ++ bytes
given_in (Calls before call) = given_in before
given_in (Refuses before fault) = given_in before
given_in (GivesUp before) = given_in before
given_in (Rests before) = given_in before
given_in (Writes before got) = given_in before

-- The bytes that are left to process after a call.
abbrev pub rest_by : ClientCall → List ℕ → List ℕ
rest_by (Took bytes) rest = drop (length bytes) rest
rest_by (Sent method target extras) rest = rest
rest_by (Cancelled token target extras) rest = rest
rest_by (Pinged custody) rest = rest
rest_by (Forgot token) rest = rest
rest_by Released rest = rest
rest_by (Announced size) rest = rest
rest_by (Wrote n) rest = rest
rest_by Ended rest = rest

-- The bytes that were read and are left to process.
abbrev pub rest_in : RunTrace → List ℕ
rest_in (Begins moment) = []
rest_in (Turns before moment) = rest_in before
rest_in (Reads before got bytes) = bytes
rest_in (Calls before call) = rest_by call (rest_in before)
rest_in (Refuses before fault) = rest_in before
rest_in (GivesUp before) = rest_in before
rest_in (Rests before) = rest_in before
rest_in (Writes before got) = rest_in before

-- The bytes that the writes accepted.
abbrev pub written_in : RunTrace → List ℕ
written_in (Begins moment) = []
written_in (Turns before moment) = written_in before
written_in (Reads before got bytes) = written_in before
written_in (Calls before call) = written_in before
written_in (Refuses before fault) = written_in before
written_in (GivesUp before) = written_in before
written_in (Rests before) = written_in before
written_in (Writes before got) = written_in before ++ bytes_passed (waiting_in before) got

-- ---- the exit status and the output

-- The reason if a read ends the run: the input has ended, or the wire has failed.
abbrev pub stop_read : RunTrace → Got → List ℕ → Option Reason
stop_read before got bytes = stop_after (phase_in (Reads before got bytes)) got

-- The exit status if the connection stops for a reason.
abbrev pub status_stopped : Option Reason → Option ℕ
status_stopped None = None
status_stopped (Some why) = Some 3

-- The line for a stopped connection, if there is a reason.
abbrev pub stop_text : Option Reason → List ℕ
stop_text None = []
stop_text (Some why) = stop_line why

-- The first exit status if there is one, otherwise the other one.
abbrev pub or_then : (first other : Option ℕ) → Option ℕ
or_then None other = other
or_then (Some status) other = Some status

-- The exit status, if the run has ended. The run ends by an event, a wire that has ended or failed, a refusal, or a
-- wait that is too long.
abbrev pub status_in : RunTrace → Option ℕ
status_in (Begins moment) = None
status_in (Turns before moment) = status_in before
status_in (Reads before got bytes) = status_stopped (stop_read before got bytes)
status_in (Calls before call) = event_status (event_in before call)
status_in (Refuses before fault) = ended_by (Some fault)
status_in (GivesUp before) = Some 4
status_in (Rests before) = status_in before
status_in (Writes before got) = or_then (status_in before) (status_stopped (stop_written (status_in before) got))

-- The bytes that the run wrote to the outlet for payloads.
abbrev pub output_in : ClientPlan → RunTrace → List ℕ
output_in plan (Begins moment) = []
output_in plan (Turns before moment) = output_in plan before
output_in plan (Reads before got bytes) = output_in plan before
output_in plan (Calls before call) = output_in plan before ++ event_output (event_in before call) plan
output_in plan (Refuses before fault) = output_in plan before
output_in plan (GivesUp before) = output_in plan before
output_in plan (Rests before) = output_in plan before
output_in plan (Writes before got) = output_in plan before

-- The bytes that the run wrote to the outlet for reports.
abbrev pub errors_in : RunTrace → List ℕ
errors_in (Begins moment) = []
errors_in (Turns before moment) = errors_in before
errors_in (Reads before got bytes) = errors_in before ++ stop_text (stop_read before got bytes)
errors_in (Calls before call) = errors_in before ++ event_errors (event_in before call)
errors_in (Refuses before fault) = errors_in before ++ refusal_text (Some fault)
errors_in (GivesUp before) = errors_in before
errors_in (Rests before) = errors_in before
errors_in (Writes before got) = errors_in before ++ stop_text (stop_written (status_in before) got)

-- ---- the rules of a trace

-- True if the wire was read in this iteration, or input was left when the iteration began.
abbrev pub has_looked : RunTrace → Bool
has_looked (Begins moment) = false
has_looked (Turns before moment) = nat_lt 0 (length (rest_in before))
has_looked (Reads before got bytes) = true
has_looked (Calls before call) = has_looked before
has_looked (Refuses before fault) = has_looked before
has_looked (GivesUp before) = has_looked before
has_looked (Rests before) = has_looked before
has_looked (Writes before got) = has_looked before

-- Says that an iteration has just begun, and that nothing has happened in it.
abbrev pub IsFresh : RunTrace → Type 0
IsFresh (Begins moment) = ⊥
IsFresh (Turns before moment) = Unit {0}
IsFresh (Reads before got bytes) = ⊥
IsFresh (Calls before call) = ⊥
IsFresh (Refuses before fault) = ⊥
IsFresh (GivesUp before) = ⊥
IsFresh (Rests before) = ⊥
IsFresh (Writes before got) = ⊥

-- True if the client refused a call in this iteration.
abbrev pub has_refused : RunTrace → Bool
has_refused (Begins moment) = false
has_refused (Turns before moment) = false
has_refused (Reads before got bytes) = has_refused before
has_refused (Calls before call) = has_refused before
has_refused (Refuses before fault) = true
has_refused (GivesUp before) = has_refused before
has_refused (Rests before) = has_refused before
has_refused (Writes before got) = has_refused before

-- Says that a run makes this call after the trace `before`. The run processes as much input as the client accepts, but
-- not before a request that must be sent. The run sends the request of the plan if it must be sent, and cancels its
-- observation when that is due.
abbrev pub IsPlanned : ClientPlan → RunTrace → ClientCall → Type 0
IsPlanned plan before (Took bytes) =
    (must_send_request (phase_in before) (token_in before) ≡ false)
    × (bytes ≡ take (takes default_limits 0 (calls_in before) (rest_in before)) (rest_in before))
IsPlanned plan before (Sent method target extras) =
    (must_send_request (phase_in before) (token_in before) ≡ true) × (method ≡ plan.method) × (target ≡ plan.target)
    × (extras ≡ planned_extras plan)
IsPlanned plan before (Cancelled token target extras) =
    (is_cancel_due plan before ≡ true) × (token_in before ≡ Some token) × (target ≡ plan.target)
    × (extras ≡ planned_extras plan)
IsPlanned plan before (Pinged custody) = ⊥
IsPlanned plan before (Forgot token) = ⊥
IsPlanned plan before Released = ⊥
IsPlanned plan before (Announced size) = ⊥
IsPlanned plan before (Wrote n) = ⊥
IsPlanned plan before Ended = ⊥

-- Says that the client refuses the request, or refuses its cancellation when that is due.
abbrev pub IsRefused : ClientPlan → RunTrace → RequestFault → Type 0
IsRefused plan before fault =
    (asking_refusal (client_in before) (token_in before) plan ≡ Some fault)
    ⊎ ((is_cancel_due plan before ≡ true) × (cancelling_refusal (client_in before) (token_in before) plan ≡ Some fault))

-- Says that no request remains to be sent, unless a call was refused in this iteration.
abbrev pub IsRequestedWhereDue : RunTrace → Type 0
IsRequestedWhereDue before = must_send_request (phase_in before) (token_in before) ≡ true → has_refused before ≡ true

-- Says that no observation remains to be cancelled, unless a call was refused in this iteration.
abbrev pub IsCancelledWhereDue : ClientPlan → RunTrace → Type 0
IsCancelledWhereDue plan before =
    (token : List ℕ) → token_in before ≡ Some token → is_cancel_due plan before ≡ true → has_refused before ≡ true

-- Says that no more input can be processed: none is left, the request must be sent first, or the client accepts no
-- bytes.
abbrev pub IsTakenUp : RunTrace → Type 0
IsTakenUp before =
    (rest_in before ≡ [])
    ⊎ ((must_send_request (phase_in before) (token_in before) ≡ true) ⊎ (client_takes (client_in before) ≡ false))

-- Says that the run has waited long enough. A response that has arrived would be known: the wire was read if no input
-- was left, and no more input can be processed. No request remains to be sent, except a refused one.
pub record HasWaited (plan : ClientPlan) (before : RunTrace) : Type 0 where
  pub late : is_late plan before ≡ true
  pub looked : has_looked before ≡ true
  pub taken : IsTakenUp before
  pub requested : IsRequestedWhereDue before

-- Says that nothing more is to be done in an iteration. The run has not ended and is not overdue. The wire was read if
-- no input was left, and no more input can be processed. No request or cancellation remains to be sent, except a
-- refused one.
pub record IsDone (plan : ClientPlan) (before : RunTrace) : Type 0 where
  pub goes_on : status_in before ≡ None
  pub in_time : is_overdue plan before ≡ false
  pub looked : has_looked before ≡ true
  pub taken : IsTakenUp before
  pub requested : IsRequestedWhereDue before
  pub cancelled : IsCancelledWhereDue plan before

-- Says that the last event is `Rests`, after which only a write is left in the iteration.
abbrev pub IsResting : RunTrace → Type 0
IsResting (Begins moment) = ⊥
IsResting (Turns before moment) = ⊥
IsResting (Reads before got bytes) = ⊥
IsResting (Calls before call) = ⊥
IsResting (Refuses before fault) = ⊥
IsResting (GivesUp before) = ⊥
IsResting (Rests before) = Unit {0}
IsResting (Writes before got) = ⊥

-- Says that an iteration may begin: at the start, or after an iteration that has done everything. That includes one
-- attempt to write, if bytes were queued.
abbrev pub IsBetween : RunTrace → Type 0
IsBetween (Begins moment) = Unit {0}
IsBetween (Turns before moment) = ⊥
IsBetween (Reads before got bytes) = ⊥
IsBetween (Calls before call) = ⊥
IsBetween (Refuses before fault) = ⊥
IsBetween (GivesUp before) = ⊥
IsBetween (Rests before) = waiting_in before ≡ []
IsBetween (Writes before got) = Unit {0}

-- Says that the last event may be followed by a write. This is so for a call, a refusal, `GivesUp` and `Rests`, but not
-- for a read or a write.
abbrev pub MayWrite : RunTrace → Type 0
MayWrite (Begins moment) = ⊥
MayWrite (Turns before moment) = ⊥
MayWrite (Reads before got bytes) = ⊥
MayWrite (Calls before call) = Unit {0}
MayWrite (Refuses before fault) = Unit {0}
MayWrite (GivesUp before) = Unit {0}
MayWrite (Rests before) = Unit {0}
MayWrite (Writes before got) = ⊥

-- Says that queued bytes were written as far as one write could: if a write may follow, no bytes are queued.
abbrev pub HasWritten : RunTrace → Type 0
HasWritten trace = MayWrite trace → waiting_in trace ≡ []

-- Says that each event of a trace may follow the events before it. After the event that ends the run, there is at most
-- one write.
abbrev pub IsRunTrace : ClientPlan → RunTrace → Type 0
IsRunTrace plan (Begins moment) = Unit {0}
IsRunTrace plan (Turns before moment) = IsRunTrace plan before × (status_in before ≡ None) × IsBetween before
IsRunTrace plan (Reads before got bytes) =
    IsRunTrace plan before × (status_in before ≡ None) × IsFresh before × (rest_in before ≡ [])
    × (length bytes ≡ count_passed got)
IsRunTrace plan (Calls before call) = IsRunTrace plan before × (status_in before ≡ None) × IsPlanned plan before call
IsRunTrace plan (Refuses before fault) =
    IsRunTrace plan before × (status_in before ≡ None) × IsRefused plan before fault
IsRunTrace plan (GivesUp before) = IsRunTrace plan before × (status_in before ≡ None) × HasWaited plan before
IsRunTrace plan (Rests before) = IsRunTrace plan before × IsDone plan before
IsRunTrace plan (Writes before got) =
    IsRunTrace plan before × (waiting_in before ≢ []) × MayWrite before × (status_in before ≡ None → IsResting before)
