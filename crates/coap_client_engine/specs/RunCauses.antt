-- Defined by this project: the cause for which a run of a client ends without a response that the client accepts.
use Rattle.std.specs.Prelude.{ℕ, List, Option, Some, None, if◌then◌else◌}
use Rattle.coap_conn.specs.declared.phase.Phase.{Phase}
use Rattle.coap_conn.specs.declared.phase.Phase.TheVariants.{Waiting, Open, Releasing}
use Rattle.coap_conn.specs.declared.phase.Phase.TheVariants as phase
use Rattle.coap_conn.specs.declared.phase.RequestFault.{RequestFault}
use Rattle.coap_conn.specs.declared.phase.RequestFault.TheVariants.{NotOpen, TooMany, TooBig, NoRoom, TokensSpent}
use Rattle.coap_conn.specs.declared.phase.RequestFault.TheVariants.{NoSuchToken}
use Rattle.coap_conn.specs.declared.reason.Reason.{Reason}
use Rattle.coap_client_request.specs.RequestViews.{planned_extras}
use Rattle.coap_client_request.specs.declared.plan.ClientPlan.{ClientPlan}
use Rattle.coap_client_engine.specs.ClientValues.{request_size, cancellation_size}
use Rattle.coap_client_engine.specs.ClientValues.{ClientEventValue, Ready, Response, Notification, Rejected, Pong}
use Rattle.coap_client_engine.specs.ClientValues.{Stranger, Stopped}
use Rattle.coap_client_engine.specs.RunSteps.{has_passed, is_to_cancel, stop_written}
use Rattle.coap_client_engine.specs.RunTrace.{RunTrace, Begins, Turns, Reads, Calls, Refuses, GivesUp, Rests, Writes}
use Rattle.coap_client_engine.specs.RunTrace.{client_in, phase_in, event_in, token_in, cancelled_in, stop_read}
use Rattle.coap_client_engine.specs.RunTrace.{status_in}
use Rattle.coap_client_engine.specs.declared.run_end.Cause.{Cause}
use Rattle.coap_client_engine.specs.declared.run_end.Cause.TheVariants as cause
use Rattle.coap_client_engine.specs.declared.run_end.Awaited.{Awaited}
use Rattle.coap_client_engine.specs.declared.run_end.Awaited.TheVariants as awaited

-- The later cause if there is one, otherwise the earlier one.
abbrev pub cause_after : Option Cause → Option Cause → Option Cause
cause_after before None = before
cause_after before (Some later) = Some later

-- ---- events and stops

-- The cause, if the connection stops for a reason.
abbrev pub cause_stopped : Option Reason → Option Cause
cause_stopped None = None
cause_stopped (Some why) = Some (cause.Stopped why)

-- The cause, if an event ends the run without a response that the client accepts.
abbrev pub cause_of : ClientEventValue → Option Cause
cause_of Ready = None
cause_of (Response m) = None
cause_of (Notification m) = None
cause_of (Rejected token number) = Some (cause.BadOption number)
cause_of (Pong token custody) = None
cause_of Stranger = None
cause_of (Stopped why) = Some (cause.Stopped why)

-- The same for accepted bytes, which have an event or none.
abbrev pub event_cause : Option ClientEventValue → Option Cause
event_cause None = None
event_cause (Some event) = cause_of event

-- ---- messages that are not sent

-- The cause, if the request fails with an error, or its cancellation after the request was sent under a token.
-- `peer_max` is the Max-Message-Size of the peer at that time.
abbrev pub cause_refused_as : Option (List ℕ) → ℕ → ClientPlan → RequestFault → Cause
cause_refused_as None peer_max plan fault =
    cause.Request (record {
      fault = fault;
      size = request_size plan.method plan.target (planned_extras plan);
      peer_max = peer_max;
    })
cause_refused_as (Some token) peer_max plan fault =
    cause.Cancellation (record {
      fault = fault;
      size = cancellation_size token plan.target (planned_extras plan);
      peer_max = peer_max;
    })

-- The cause, if there is an error that ends the run. If the queue has no room, the run tries again.
abbrev pub cause_refused : Option (List ℕ) → ℕ → ClientPlan → Option RequestFault → Option Cause
cause_refused token peer_max plan None = None
cause_refused token peer_max plan (Some NotOpen) = Some (cause_refused_as token peer_max plan NotOpen)
cause_refused token peer_max plan (Some TooMany) = Some (cause_refused_as token peer_max plan TooMany)
cause_refused token peer_max plan (Some TooBig) = Some (cause_refused_as token peer_max plan TooBig)
cause_refused token peer_max plan (Some NoRoom) = None
cause_refused token peer_max plan (Some TokensSpent) = Some (cause_refused_as token peer_max plan TokensSpent)
cause_refused token peer_max plan (Some NoSuchToken) = Some (cause_refused_as token peer_max plan NoSuchToken)

-- ---- waits

-- The response that the client awaits: the last one after a cancellation, otherwise the first one.
abbrev pub awaited_after : Option ℕ → Awaited
awaited_after None = awaited.Response
awaited_after (Some cancelled) = awaited.LastResponse

-- The message that the client awaits: the first CSM of the peer, then a response, and after a
-- cancellation the last one.
abbrev pub awaited_in : Phase → Option ℕ → Awaited
awaited_in Waiting cancelled = awaited.Csm
awaited_in Open cancelled = awaited_after cancelled
awaited_in (Releasing why) cancelled = awaited_after cancelled
awaited_in (phase.Stopped why) cancelled = awaited_after cancelled

-- The cause, if the run has waited since `since` for `wait` seconds.
abbrev pub cause_waited : Awaited → ℕ → ℕ → ℕ → Option Cause
cause_waited what now since wait = if has_passed now since wait then Some (cause.TimedOut what wait) else None

-- The cause that the deadlines give. If the cancellation of the observation is refused, the cause is `refused`.
abbrev pub watched_cause : Option ℕ → Option ℕ → ℕ → ℕ → ClientPlan → Phase → Option Cause → Option Cause
watched_cause (Some cancelled) first started moment plan now refused =
    cause_waited (awaited_in now (Some cancelled)) moment cancelled plan.wait
watched_cause None None started moment plan now refused = cause_waited (awaited_in now None) moment started plan.wait
watched_cause None (Some first) started moment plan now refused =
    if is_to_cancel None (Some first) moment plan.observe then refused else None

-- ---- the cause of a trace

-- The cause for which a run with this trace ended. None if the run continues, or if a last response ended it.
abbrev pub cause_in : ClientPlan → RunTrace → Option Cause
cause_in plan (Begins moment) = None
cause_in plan (Turns before moment) = cause_in plan before
cause_in plan (Reads before got bytes) = cause_after (cause_in plan before) (cause_stopped (stop_read before got bytes))
cause_in plan (Calls before call) = cause_after (cause_in plan before) (event_cause (event_in before call))
cause_in plan (Refuses before fault) =
    cause_after (cause_in plan before)
    (cause_refused (token_in before) (client_in before).link.peer_max plan (Some fault))
cause_in plan (GivesUp before) = Some (cause.TimedOut (awaited_in (phase_in before) (cancelled_in before)) plan.wait)
cause_in plan (Rests before) = cause_in plan before
cause_in plan (Writes before got) =
    cause_after (cause_in plan before) (cause_stopped (stop_written (status_in before) got))
