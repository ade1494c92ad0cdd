-- The event that each step of a client's run adds to its trace.
use Rattle.std.proofs.Common.{◌≡◌, ◌≢◌, ◌<◌, ◌≤◌, ◌⊎◌, ℕ, max, Bool, true, false, cond, List, [], ◌∷◌, ◌++◌, length}
use Rattle.std.proofs.Common.{take, drop, Option, Some, None, Result, Ok, Err, refl, ap, inl, ◌∙◌, arith, append_assoc}
use Rattle.coap_client_engine.specs.Prelude.{◌==◌, IfOk, OnOk, option_map, LimitValues, LinkValue, TargetValue}
use Rattle.coap_client_engine.specs.Prelude.{ExtrasValue, RequestFault, NoRoom, WriteFailed, Got, Reason, AddsBytes}
use Rattle.coap_client_engine.specs.Prelude.{AddsCalls, bytes_passed, count_passed, ClientValue, client_takes}
use Rattle.coap_client_engine.specs.Prelude.{ClientTakeOutcome, taking, client_written, client_cancelled, send_refusal}
use Rattle.coap_client_engine.specs.Prelude.{Took, Sent, Cancelled, Ended, End, ClientCall, client_of, takes, event_of}
use Rattle.coap_client_engine.specs.Prelude.{steps_by, AreAccepted, ClientShows, may_take, must_send_request}
use Rattle.coap_client_engine.specs.Prelude.{is_to_cancel, watched, planned_extras, client_asking, client_cancelling}
use Rattle.coap_client_engine.specs.Prelude.{token_asking, cancelled_at, ended_by, refusal_text, event_status}
use Rattle.coap_client_engine.specs.Prelude.{event_first, event_output, event_errors, calls_read, calls_written}
use Rattle.coap_client_engine.specs.Prelude.{client_read, stop_after, stop_written, RunTrace, Turns, Reads, Calls}
use Rattle.coap_client_engine.specs.Prelude.{Refuses, GivesUp, Rests, default_limits, calls_in, client_in, event_in}
use Rattle.coap_client_engine.specs.Prelude.{turns_in, is_cancel_due, status_stopped, stop_text, or_then, status_in}
use Rattle.coap_client_engine.specs.Prelude.{has_looked, IsRequestedWhereDue, IsTakenUp, IsFresh, IsResting, IsBetween}
use Rattle.coap_client_engine.specs.Prelude.{MayWrite, RunDevices, with_outlets, token_of, IsAtTrace, ExtendsTraceOn}
use Rattle.coap_client_engine.specs.Prelude.{IsRequested, IsAfterRead, IsFinished, IsFlushed, most_turns, IsEnded}
use Rattle.coap_client_engine.specs.Prelude.{IsOutOfTurns, ClientPlan, Run, RunEnd, IsExplainedRun, cause_after}
use Rattle.coap_client_engine.specs.Prelude.{cause_stopped, event_cause, cause_refused, watched_cause}
use Rattle.std.proofs.lemmas.Bool.{and_parts, eqb-true}
use Rattle.std.proofs.lemmas.Bool.Decides.{nat_tests}
use Rattle.std.proofs.lemmas.List.{append-nil, length-append, length-take-le, nil_from_length}
use Rattle.coap_client_engine.specs.RunSteps.{asking_refusal, cancelling_refusal}
use Rattle.coap_client_engine.specs.RunTrace.{Writes, is_late}
use Rattle.coap_client_engine.proofs.ClientSteps.{stream_rest_unfinished}
use Rattle.coap_client_engine.proofs.ClientReached.{accepted_reach, Accepts, client_by}
use Rattle.coap_client_engine.proofs.ClientShown.{call_shown, took_takes, took_reported, took_shown}
use Rattle.coap_client_engine.proofs.TakingLemmas.{taking_limits}
use Rattle.coap_client_engine.proofs.RunTraceLaws.{trace_taken, trace_queued}
use Rattle.coap_frame.proofs.FrontLaws.{some_in_front}

-- ---- the client of a run

-- Only a `take` has an event.
silent : (l : LinkValue) (calls : List ClientCall) (c : ClientCall) → Accepts l c
    → event_of default_limits 0 calls c ≡ None
unfolding event_of steps_by
silent l calls (Took bytes) may = absurd may
silent l calls c may = refl

-- A call keeps the limits.
limits_by : (c : ClientCall) (v : ClientValue) → (client_by c v).link.limits ≡ v.link.limits
limits_by c v = grind arith

-- A client that accepts bytes accepts at least one.
client_takes_some : (calls : List ClientCall) (piece : List ℕ) → AreAccepted default_limits 0 calls
    → client_takes (client_of default_limits 0 calls) ≡ true → 0 < length piece
    → 1 ≤ takes default_limits 0 calls piece
unfolding takes client_of
client_takes_some calls piece accepted does some =
    let live = (accepted_reach default_limits 0 calls accepted).live (and_parts _ _ does).0 in
    rw does (some_in_front _ _ piece (stream_rest_unfinished _ calls live) some)

-- A client that accepts no bytes accepts none after a cancellation.
cancelled_takes : (v : ClientValue) (token : List ℕ) (target : TargetValue) (extras : ExtrasValue)
    → client_takes v ≡ false → client_takes (client_cancelled v token target extras) ≡ false
cancelled_takes v token target extras is = grind (arith, nat_tests, length-append)

-- If no more input can be processed, none is left, the request must be sent, or the client accepts no bytes.
shut_so : {T : Type 0} (f : T → List ℕ) (client : ClientValue) (rest : List ℕ) (token : Option T)
    → may_take client rest token ≡ false → (rest ≡ [])
    ⊎ ((must_send_request client.link.phase (option_map f token) ≡ true) ⊎ (client_takes client ≡ false))
shut_so f client [] token shut = inl refl
shut_so f client (b ∷ rest) token shut = grind (arith, nat_tests)

-- The calls of a read lead to the client after it.
read_shown : (v new : ClientValue) (got : Got) (calls : List ClientCall) → new ≡ client_read v got
    → ClientShows v 0 calls → ClientShows new 0 (calls ++ calls_read got)
read_shown v new End calls is shows = call_shown v new Ended tt is 0 calls shows
read_shown v new got calls is shows = rw (is, append-nil) shows

-- ---- the steps of a run, as their contracts say

-- The result of a `take` of the rest of the input.
abbrev pub taken_of : Run → ClientTakeOutcome
taken_of r = taking r.client r.rest

-- True if the observation must be cancelled, and the error if that is refused.
abbrev pub is_due : ClientPlan → Run → Bool
is_due plan r = is_to_cancel r.cancelled r.first r.moment plan.observe

abbrev pub refusal_of : ClientPlan → Run → Option RequestFault
refusal_of plan r = cancelling_refusal r.client (token_of r) plan

-- `Run::take`.
pub record Takes (plan : ClientPlan) (now : RunDevices) (r r' : Run) (o e : Option (List ℕ)) : Type 0 where
  pub client : r'.client ≡ (taken_of r).client
  pub within : (taken_of r).count ≤ length r.rest
  pub rest : r'.rest ≡ drop (taken_of r).count r.rest
  pub kept : (r'.token ≡ r.token) × (r'.started ≡ r.started) × (r'.moment ≡ r.moment) × (r'.cancelled ≡ r.cancelled)
  pub first : r'.first ≡ event_first (taken_of r).event r.first r.moment
  pub cause : r'.cause ≡ cause_after r.cause (event_cause (taken_of r).event)
  pub out : AddsBytes now.out o (event_output (taken_of r).event plan)
  pub err : AddsBytes now.err e (event_errors (taken_of r).event)

-- `Run::send_request`.
pub record Asks (plan : ClientPlan) (now : RunDevices) (r r' : Run) (e : Option (List ℕ)) : Type 0 where
  pub after : r'.client ≡ client_asking r.client r.token plan
  pub token : token_of r' ≡ token_asking r.client (token_of r) plan
  pub kept : (r'.rest ≡ r.rest) × (r'.started ≡ r.started) × (r'.moment ≡ r.moment) × (r'.first ≡ r.first)
      × (r'.cancelled ≡ r.cancelled)
  pub cause : r'.cause
      ≡ cause_after r.cause (cause_refused None r.client.link.peer_max plan (asking_refusal r.client r.token plan))
  pub reported : AddsBytes now.err e (refusal_text (asking_refusal r.client r.token plan))

-- `Run::check_deadlines`.
pub record Watches (plan : ClientPlan) (now : RunDevices) (r r' : Run) (e : Option (List ℕ)) : Type 0 where
  pub after : r'.client ≡ cond (is_due plan r) (client_cancelling r.client (token_of r) plan) r.client
  pub cancelled : r'.cancelled ≡ cond (is_due plan r)
      (cancelled_at r.token (refusal_of plan r) r.moment r.cancelled) r.cancelled
  pub kept : (r'.rest ≡ r.rest) × (r'.token ≡ r.token) × (r'.started ≡ r.started) × (r'.moment ≡ r.moment)
      × (r'.first ≡ r.first)
  pub cause : r'.cause ≡ cause_after r.cause (watched_cause r.cancelled r.first r.started r.moment plan
      r.client.link.phase (cause_refused (token_of r) r.client.link.peer_max plan (refusal_of plan r)))
  pub reported : AddsBytes now.err e (cond (is_due plan r) (refusal_text (refusal_of plan r)) [])

-- A read of the wire or a write to it, and the report of the stop to which it leads.
pub record UsesWire (now now' : RunDevices) (r r' : Run) (got : Got) (read written : List ℕ) (why : Option Reason)
    : Type 0 where
  pub kept : (r'.token ≡ r.token) × (r'.started ≡ r.started) × (r'.moment ≡ r.moment) × (r'.first ≡ r.first)
      × (r'.cancelled ≡ r.cancelled)
  pub gave : AddsBytes now.given now'.given read
  pub wrote : AddsBytes now.written now'.written written
  pub answered : AddsCalls now.answers now'.answers (got ∷ [])
  pub others : (now'.moments ≡ now.moments) × (now'.out ≡ now.out)
  pub cause : r'.cause ≡ cause_after r.cause (cause_stopped why)
  pub reported : AddsBytes now.err now'.err (stop_text why)

-- ---- a run that agrees with a trace

-- A trace with what holds of it.
pub on : {plan : ClientPlan} {start now : RunDevices} {r : Run} {P : RunTrace → Type 0} {next : Option ℕ}
    (c : RunTrace) → IsAtTrace plan start now r c × (status_in c ≡ next) × P c → ExtendsTraceOn plan start now r P next
on c is = record { trace = c; is_at = is.0; ends = is.1; holds = is.2 }

module _ {plan : ClientPlan} {start now : RunDevices} {r : Run} {c : RunTrace}
    (is_at : IsAtTrace plan start now r c) where
  -- The client is the one of the trace, and accepted all calls.
  client_is : r.client ≡ client_in c
  client_is = is_at.shows.same ∙ ap (λ (l : LimitValues). client_of l 0 (calls_in c)) is_at.limits

  accepted : AreAccepted default_limits 0 (calls_in c)
  accepted = rw is_at.limits at is_at.shows.accepted

  pub taken_up : may_take r.client r.rest r.token ≡ false → IsTakenUp c
  taken_up shut = rw (client_is, is_at.rest, is_at.token) at (shut_so (λ t. t.items) r.client r.rest r.token shut)

  -- ---- a take

  pub takes_one : may_take r.client r.rest r.token ≡ true → 1 ≤ (taken_of r).count
  takes_one may =
      let count = took_takes r.client r.rest _ refl 0 (calls_in c) is_at.shows in
      let some = client_takes_some (calls_in c) r.rest accepted (grind (arith, client_is)) (grind (arith, nat_tests)) in
      grind (arith, is_at.limits)

  pub took : {r' : Run} {o e : Option (List ℕ)} → status_in c ≡ None → may_take r.client r.rest r.token ≡ true
      → Takes plan now r r' o e → ExtendsTraceOn plan start (with_outlets o e now) r'
      (λ t. (turns_in t ≡ turns_in c) × (has_looked t ≡ has_looked c) × MayWrite t)
      (event_status (taken_of r).event)
  took {r'} goes may step =
      let count = took_takes r.client r.rest _ refl 0 (calls_in c) is_at.shows in
      let event = took_reported r.client r.rest _ refl 0 (calls_in c) is_at.shows _ refl in
      let shows = took_shown r.client r.rest _ refl 0 (calls_in c) is_at.shows in
      let limits = taking_limits r.client r.rest in
      let front = length-take-le _ r.rest step.within in
      on (Calls c (Took (take (taken_of r).count r.rest))) (grind (arith, client_is, append_assoc))

  -- ---- a request

  -- A call without an event.
  called : (new : ClientValue) (call : ClientCall) → Accepts r.client.link call → new ≡ client_by call r.client
      → ClientShows new 0 (calls_in c ++ call ∷ []) × (new.link.limits ≡ default_limits) × (event_in c call ≡ None)
  called new call may is = (
    call_shown r.client new call may is 0 (calls_in c) is_at.shows,
    rw is (limits_by call r.client ∙ is_at.limits),
    silent r.client.link (calls_in c) call may,
  )

  module _ {r' : Run} {e : Option (List ℕ)} (goes : status_in c ≡ None) (looked : has_looked c ≡ true)
      (step : Asks plan now r r' e) where
    asked_by : (asks : Bool) (refusal : Option RequestFault) → must_send_request r.client.link.phase r.token ≡ asks
        → send_refusal r.client.link plan.method plan.target (planned_extras plan) ≡ refusal
        → ExtendsTraceOn plan start (with_outlets now.out e now) r' (IsRequested (turns_in c))
        (ended_by (asking_refusal r.client r.token plan))
    asked_by false refusal asks is = on c (grind (arith, client_is, append-nil))
    asked_by true None asks is =
        let call = Sent plan.method plan.target (planned_extras plan) in
        let made = called r'.client call is (grind arith) in
        on (Calls c call) (grind (arith, client_is, append-nil))
    asked_by true (Some fault) asks is = on (Refuses c fault) (grind (arith, client_is, append_assoc))

    pub asked : ExtendsTraceOn plan start (with_outlets now.out e now) r' (IsRequested (turns_in c))
        (ended_by (asking_refusal r.client r.token plan))
    asked = asked_by _ _ refl refl

  -- ---- a read and a write

  pub read : {r' : Run} {now' : RunDevices} (got : Got) (why : Option Reason) → status_in c ≡ None → IsFresh c
      → (length r.rest == 0) ≡ true → length r'.rest ≡ count_passed got → r'.client ≡ client_read r.client got
      → why ≡ stop_after r'.client.link.phase got → UsesWire now now' r r' got r'.rest [] why
      → ExtendsTraceOn plan start now' r' (IsAfterRead (turns_in c)) (status_stopped why)
  read {r'} got why goes fresh none count client stop step =
      let empty = nil_from_length r.rest (eqb-true (length r.rest) 0 none) in
      let shows = read_shown r.client r'.client got (calls_in c) client is_at.shows in
      on (Reads c got r'.rest) (grind (arith, client_is, append_assoc, append-nil))

  pub wrote : {r' : Run} {now' : RunDevices} (next : Option ℕ) (got : Got) (why : Option Reason) → status_in c ≡ next
      → MayWrite c → (status_in c ≡ None → IsResting c) → r.client.link.waiting ≢ [] → r'.rest ≡ r.rest
      → r'.client ≡ client_written r.client (count_passed got)
      → ((tokens : ℕ) (calls : List ClientCall) → ClientShows r.client tokens calls
      → ClientShows r'.client tokens (calls ++ calls_written got)) → why ≡ stop_written next got
      → UsesWire now now' r r' got [] (bytes_passed r.client.link.waiting got) why
      → ExtendsTraceOn plan start now' r' (IsFlushed (turns_in c)) (or_then next (status_stopped why))
  wrote next got why ends may rests some rest client shown stop step =
      let shows = shown 0 (calls_in c) is_at.shows in
      on (Writes c got) (grind (arith, client_is, append_assoc, append-nil))

  -- ---- deadlines

  module _ {r' : Run} {e : Option (List ℕ)} (goes : status_in c ≡ None) (looked : has_looked c ≡ true)
      (taken : IsTakenUp c) (requested : IsRequestedWhereDue c) (step : Watches plan now r r' e) where
    abbrev Due : Type 0
    Due = ExtendsTraceOn plan start (with_outlets now.out e now) r' (IsFinished (turns_in c))
        (watched r.cancelled r.first r.started r.moment plan (ended_by (refusal_of plan r)))

    cancels : is_cancel_due plan c ≡ true → (own : Option (List ℕ)) → token_of r ≡ own
        → (refusal : Option RequestFault) → cancelling_refusal r.client own plan ≡ refusal → Due
    cancels due None has refusal is = on (Rests c) (grind (arith, client_is, append-nil))
    cancels due (Some own) has None is =
        let call = Cancelled own plan.target (planned_extras plan) in
        let made = called r'.client call is (grind arith) in
        let shut = cancelled_takes r.client own plan.target (planned_extras plan) in
        on (Rests (Calls c call)) (grind (arith, client_is, append-nil, nat_tests))
    cancels due (Some own) has (Some NoRoom) is =
        on (Rests (Refuses c NoRoom)) (grind (arith, client_is, append-nil, append_assoc))
    cancels due (Some own) has (Some fault) is = on (Refuses c fault) (grind (arith, client_is, append_assoc))

    watched_as : (due late : Bool) → is_cancel_due plan c ≡ due → is_late plan c ≡ late → Due
    watched_as true late due is = cancels due (token_of r) refl _ refl
    watched_as false true due late = on (GivesUp c) (grind (arith, client_is, append-nil))
    watched_as false false due late = on (Rests c) (grind (arith, client_is, append-nil, nat_tests))

    pub watched_on : Due
    watched_on = watched_as _ _ refl refl

-- ---- results of the parts of an iteration

-- A trace that the run has if no outlet failed.
pub answers_on : {plan : ClientPlan} {start now : RunDevices} {r : Run} {P : RunTrace → Type 0} {A : Type 0}
    (next : Option ℕ) (result : Result (Option ℕ) WriteFailed) → IfOk result (λ n. n ≡ next) → OnOk result A
    → (A → ExtendsTraceOn plan start now r P next) → IfOk result (ExtendsTraceOn plan start now r P)
answers_on next (Ok n) is reported leads = rw is (leads reported)
answers_on next (Err e) is reported leads = tt

-- A property of a trace follows from another one and the status after it.
pub leads : {plan : ClientPlan} {start now : RunDevices} {r : Run} {P Q : RunTrace → Type 0} {next : Option ℕ}
    (after : Option ℕ) → ExtendsTraceOn plan start now r P next → next ≡ after
    → ((c : RunTrace) → IsAtTrace plan start now r c → status_in c ≡ after → P c → Q c)
    → ExtendsTraceOn plan start now r Q after
leads after led same so =
    let ends = led.ends ∙ same in
    on led.trace (led.is_at, ends, so led.trace led.is_at ends led.holds)

-- ---- an iteration, and the end

module _ {plan : ClientPlan} {start now : RunDevices} {r : Run} {c : RunTrace}
    (is_at : IsAtTrace plan start now r c) where
  pub turned : (moment later : ℕ) (moments : Option (List ℕ)) → status_in c ≡ None → IsBetween c
      → later ≡ max r.moment moment → AddsCalls now.moments moments (moment ∷ [])
      → IsAtTrace plan start (record now { moments = moments }) (record r { moment = later }) (Turns c moment)
  turned moment later moments goes between same requested = grind (arith, append_assoc)

  pub explained : turns_in c ≤ most_turns → (end : RunEnd) → IsEnded c end.status ⊎ IsOutOfTurns c end.status
      → end.cause ≡ r.cause → IsExplainedRun plan start now end
  explained few end ends same =
      let all = accepted is_at in
      record {
        run = record {
          trace = c;
          follows = is_at.follows;
          accepted = all;
          taken = trace_taken plan c is_at.follows;
          queued = trace_queued plan c is_at.follows all;
          reported = is_at.reported;
          turns = few;
          ends = ends;
        };
        cause = same ∙ is_at.cause;
      }
