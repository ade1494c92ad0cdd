-- Defined by this project: the contract of a run of a client, which relates a trace (`RunTrace`) to the records of its
-- devices.
use Rattle.std.specs.Prelude.{◌≡◌, ◌≢◌, ◌≤◌, ℕ, true, ◌⊎◌, List, ◌++◌, Option, Some, None, Result, option_map, IfOk}
use Rattle.coap_conn.specs.LinkValue.{bytes_of}
use Rattle.coap_io.specs.declared.wire.Got.{Got}
use Rattle.coap_io.specs.declared.output.WriteFailed.{WriteFailed}
use Rattle.coap_io.specs.streams.Device.{AddsBytes}
use Rattle.coap_io.specs.streams.DeviceTraces.{AddsCalls}
use Rattle.coap_client_engine.specs.ClientWorld.{AreAccepted, ClientShows}
use Rattle.coap_client_engine.specs.RunTrace.{RunTrace, Begins, calls_in, history_in, token_in, moments_in, turns_in}
use Rattle.coap_client_engine.specs.RunTrace.{moment_in, started_in, first_in, cancelled_in, answers_in, taken_in}
use Rattle.coap_client_engine.specs.RunTrace.{given_in, rest_in, waiting_in, written_in, status_in, output_in}
use Rattle.coap_client_engine.specs.RunTrace.{errors_in, has_looked, IsRequestedWhereDue, IsTakenUp, IsResting}
use Rattle.coap_client_engine.specs.RunTrace.{IsBetween}
use Rattle.coap_client_engine.specs.RunTrace.{MayWrite, HasWritten, IsRunTrace}
use Rattle.coap_client_request.specs.declared.plan.ClientPlan.{ClientPlan}
use Rattle.coap_client_engine.specs.RunCauses.{cause_in}
use Rattle.coap_client_engine.specs.declared.run.state.Run.{Run}
use Rattle.coap_client_engine.specs.declared.run_end.RunEnd.{RunEnd}
use Rattle.coap_conn.specs.Limits.{default_limits}

-- ---- the records of the devices

-- The records of the devices of a run. The wire records the bytes read, the bytes written and the results of its calls.
-- The clock records times, and the outlets record the bytes written. A field is `None` if its device records nothing.
pub record RunDevices : Type 0 where
  pub given : Option (List ℕ)
  pub written : Option (List ℕ)
  pub answers : Option (List Got)
  pub moments : Option (List ℕ)
  pub out : Option (List ℕ)
  pub err : Option (List ℕ)

-- The records of the devices, field by field.
abbrev pub records : (given written : Option (List ℕ)) (answers : Option (List Got))
    (moments out err : Option (List ℕ)) → RunDevices
records given written answers moments out err =
    record { given = given; written = written; answers = answers; moments = moments; out = out; err = err }

-- Says that between `start` and `now` the devices recorded exactly the events of a trace.
pub record IsRecorded (plan : ClientPlan) (start now : RunDevices) (trace : RunTrace) : Type 0 where
  pub given : AddsBytes start.given now.given (given_in trace)
  pub written : AddsBytes start.written now.written (written_in trace)
  pub answers : AddsCalls start.answers now.answers (answers_in trace)
  pub moments : AddsCalls start.moments now.moments (moments_in trace)
  pub out : AddsBytes start.out now.out (output_in plan trace)
  pub err : AddsBytes start.err now.err (errors_in trace)

-- ---- the contract of a run

-- The maximum number of iterations.
abbrev pub most_turns : ℕ
most_turns = 1000000000000

-- Says that the run ended with this status, and that queued bytes were then written as far as one write could. After a
-- read that ends the run there is no write.
abbrev pub IsEnded : RunTrace → ℕ → Type 0
IsEnded trace status = (status_in trace ≡ Some status) × HasWritten trace

-- Says that the run made all iterations to their end, that none of them ended it, and that the status is 4.
abbrev pub IsOutOfTurns : RunTrace → ℕ → Type 0
IsOutOfTurns trace status =
    (status_in trace ≡ None) × IsBetween trace × (turns_in trace ≡ most_turns) × (status ≡ 4)

-- The contract of a run that returns an exit status. There is a trace of calls that the client accepts. The accepted
-- bytes are a prefix of the bytes that the wire gave, and the written bytes are a prefix of the queued bytes. The
-- devices recorded exactly this trace. The status is the one that ends the trace, or 4 if all iterations were made.
pub record IsClientRun (plan : ClientPlan) (start now : RunDevices) (status : ℕ) : Type 0 where
  pub trace : RunTrace
  pub follows : IsRunTrace plan trace
  pub accepted : AreAccepted default_limits 0 (calls_in trace)
  pub taken : given_in trace ≡ taken_in trace ++ rest_in trace
  pub queued : bytes_of (history_in trace).queued ≡ written_in trace ++ waiting_in trace
  pub reported : IsRecorded plan start now trace
  pub turns : turns_in trace ≤ most_turns
  pub ends : IsEnded trace status ⊎ IsOutOfTurns trace status

-- The contract of a run that returns its end: it is a run that returns the status, and the cause is that of its trace.
pub record IsExplainedRun (plan : ClientPlan) (start now : RunDevices) (end : RunEnd) : Type 0 where
  pub run : IsClientRun plan start now end.status
  pub cause : end.cause ≡ cause_in plan run.trace

-- The contract of a run for which allocation fails: the clock recorded one time, and the other devices recorded
-- nothing.
pub record FailedBeforeStart (plan : ClientPlan) (start now : RunDevices) : Type 0 where
  pub moment : ℕ
  pub reported : IsRecorded plan start now (Begins moment)

-- ---- the state during a run

-- The token of the request, after it was sent.
abbrev pub token_of : Run → Option (List ℕ)
token_of run = option_map (λ t. t.items) run.token

-- Says that the state of a run is the one to which a trace leads, and that the devices recorded this trace.
pub record IsAtTrace (plan : ClientPlan) (start now : RunDevices) (run : Run) (trace : RunTrace) : Type 0 where
  pub follows : IsRunTrace plan trace
  pub shows : ClientShows run.client 0 (calls_in trace)
  pub limits : run.client.link.limits ≡ default_limits
  pub rest : run.rest ≡ rest_in trace
  pub token : token_of run ≡ token_in trace
  pub started : run.started ≡ started_in trace
  pub moment : run.moment ≡ moment_in trace
  pub first : run.first ≡ first_in trace
  pub cancelled : run.cancelled ≡ cancelled_in trace
  pub cause : run.cause ≡ cause_in plan trace
  pub reported : IsRecorded plan start now trace

-- Says that a part of an iteration leads to a trace for which `P` holds. `next` is the exit status after that trace, or
-- `None` if the run continues.
pub record ExtendsTraceOn (plan : ClientPlan) (start now : RunDevices) (run : Run) (P : RunTrace → Type 0)
    (next : Option ℕ) : Type 0 where
  pub trace : RunTrace
  pub is_at : IsAtTrace plan start now run trace
  pub ends : status_in trace ≡ next
  pub holds : P trace

-- Says that the wire was read in this iteration, or that input was left when the iteration began.
abbrev pub HasReadClock : RunTrace → Type 0
HasReadClock trace = has_looked trace ≡ true

-- Says that the wire was read if no input was left, and that no request remains to be sent, except a refused one.
pub record IsReady (trace : RunTrace) : Type 0 where
  pub looked : HasReadClock trace
  pub requested : IsRequestedWhereDue trace

-- The state after the read, with the number of iterations that began. The wire was read if no input was left, unless
-- the run has ended. No write may follow yet.
pub record IsAfterRead (began : ℕ) (trace : RunTrace) : Type 0 where
  pub turns : turns_in trace ≡ began
  pub looked : status_in trace ≡ None → HasReadClock trace
  pub early : MayWrite trace → ⊥

-- The state after the attempt to send the request. If the run continues, no request remains to be sent, except a
-- refused one.
pub record IsRequested (began : ℕ) (trace : RunTrace) : Type 0 where
  pub turns : turns_in trace ≡ began
  pub looked : HasReadClock trace
  pub requested : status_in trace ≡ None → IsRequestedWhereDue trace
  pub writes : status_in trace ≢ None → MayWrite trace

-- The state after the input was processed. If the run continues, no more input can be processed now.
pub record IsTaken (began : ℕ) (trace : RunTrace) : Type 0 where
  pub turns : turns_in trace ≡ began
  pub looked : HasReadClock trace
  pub requested : status_in trace ≡ None → IsRequestedWhereDue trace
  pub taken : status_in trace ≡ None → IsTakenUp trace
  pub writes : status_in trace ≢ None → MayWrite trace

-- The state after everything but the write. If the run continues, nothing else is left in the iteration.
pub record IsFinished (began : ℕ) (trace : RunTrace) : Type 0 where
  pub turns : turns_in trace ≡ began
  pub rests : status_in trace ≡ None → IsResting trace
  pub writes : MayWrite trace

-- The state after the write. If the run continues, the next iteration may begin.
pub record IsFlushed (began : ℕ) (trace : RunTrace) : Type 0 where
  pub turns : turns_in trace ≡ began
  pub between : status_in trace ≡ None → IsBetween trace
  pub written : HasWritten trace

-- ---- the contracts of the parts of a run

-- The records of the devices with other records of the outlets.
abbrev pub with_outlets : (out err : Option (List ℕ)) → RunDevices → RunDevices
with_outlets out err now = records now.given now.written now.answers now.moments out err

-- The records of the devices with other records of the wire and of the outlet for reports.
abbrev pub with_wire : (given written : Option (List ℕ)) (answers : Option (List Got)) (err : Option (List ℕ))
    → RunDevices → RunDevices
with_wire given written answers err now = records given written answers now.moments now.out err

-- The records of the devices with other records of the wire and of both outlets.
abbrev pub with_all : (given written : Option (List ℕ)) (answers : Option (List Got)) (out err : Option (List ℕ))
    → RunDevices → RunDevices
with_all given written answers out err now = records given written answers now.moments out err

-- The contract of a part of an iteration. If the run has not ended and its trace satisfies `P`, the part leads to a
-- trace that satisfies `Q`.
abbrev pub ExtendsTrace : (old new : RunDevices → RunDevices) (P : RunTrace → Type 0) (Q : ℕ → RunTrace → Type 0)
    → ClientPlan → (before after : Run) → Result (Option ℕ) WriteFailed → Type 0
ExtendsTrace old new P Q plan before after result =
    (start now : RunDevices) (trace : RunTrace) → IsAtTrace plan start (old now) before trace
    → status_in trace ≡ None → P trace
    → IfOk result (ExtendsTraceOn plan start (new now) after (Q (turns_in trace)))

-- The contract of a part of an iteration that holds for every plan.
abbrev pub ExtendsAllTraces : (old new : RunDevices → RunDevices) (P : RunTrace → Type 0) (Q : ℕ → RunTrace → Type 0)
    → (before after : Run) → Result (Option ℕ) WriteFailed → Type 0
ExtendsAllTraces old new P Q before after result =
    (plan : ClientPlan) → ExtendsTrace old new P Q plan before after result

-- The contract of a write. The trace before it ends the run with the status `next`, or everything else in the iteration
-- was done.
abbrev pub Flushes : (old new : RunDevices → RunDevices) → (before after : Run) → Option ℕ
    → Result (Option ℕ) WriteFailed → Type 0
Flushes old new before after next result =
    (plan : ClientPlan) (start now : RunDevices) (trace : RunTrace) → IsAtTrace plan start (old now) before trace
    → status_in trace ≡ next → MayWrite trace → (status_in trace ≡ None → IsResting trace)
    → IfOk result (ExtendsTraceOn plan start (new now) after (IsFlushed (turns_in trace)))
