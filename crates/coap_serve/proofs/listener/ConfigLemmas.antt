-- The configuration of a server, which no part of a run changes, so the buffer for responses keeps its room. The calls
-- of a run, each of which a script can make again.
use Rattle.std.proofs.Common.{◌≡◌, ◌≤◌, ◌∙◌, ℕ, List, [], ◌∷◌, Option, Result, Ok, Err, OnErr, OnOk, ap, inl, inr, refl}
use Rattle.std.proofs.Common.{arith, true, false, Some, None, is_none, nat_le, ◌==◌, ◌+◌, if◌then◌else◌}
use Rattle.coap_server_engine.proofs.values.RoomLemmas.{more_room, offered_config, partly_config, served_config}
use Rattle.coap_model.specs.declared.answers.ReleaseFault.{ReleaseFault}
use Rattle.coap_serve.specs.Prelude.{AcceptedCall, AreSteps, ConfigValues, Exchange, HasServed, History, ServerValue}
use Rattle.coap_serve.specs.Prelude.{acted, released_refusal, silence_action, status_of, swept, swept_one, NothingGiven}
use Rattle.coap_serve.specs.Prelude.{AreGivenLater, HasResponseRoom, OneMoreGiven, Peer, SilenceAction, NoStep, OneMore}
use Rattle.coap_serve.specs.Prelude.{BytesTaken, BytesWritten, ConnectionDropped, InputEnded, IsVisitStep, Message}
use Rattle.coap_serve.specs.Prelude.{FormatFault, Opened, Took, Wrote, Ticked, Ended, Released, Responded, Dropped}
use Rattle.coap_serve.specs.Prelude.{responded_refusal, response_event, asking, offered_events, served, IsRunCall}
use Rattle.coap_serve.specs.Prelude.{IsRunStep, LaterGiven, SilentDropped, SilentReleased, TimeSet, TurnMade, NotOpened}
use Rattle.coap_serve.specs.Prelude.{moved_calls, ticked_calls, AreTakenWith, opening_events, AreTurnSteps, DoorWaited}
use Rattle.coap_serve.specs.Prelude.{IsPartlyServed, VisitsMade, WireReturned, ask_result, keys_of}
use Rattle.coap_server_engine.proofs.values.ServerLemmas.{keys_where_settled}
use Rattle.coap_server_engine.proofs.values.ServingLemmas.{taken_keys}
use Rattle.std.specs.Prelude.{All}
use Rattle.std.proofs.lemmas.List.Elements.{All-append, All-cons, All-nil, All-push}
use Rattle.coap_wire.specs.Reading.{message_of}

-- The buffer has room for another server with the same configuration, also if it was enlarged.
pub keeps_room : {c after : ConfigValues} {small large : ℕ} → after ≡ c → small ≤ large → HasResponseRoom c small
    → HasResponseRoom after large
keeps_room {c = c} is more room = rw is (more_room c more room)

-- A call that may fail.
pub config_or_not : {T E : Type 0} (r : Result T E) (v after next : ServerValue) → next.config ≡ v.config
    → OnOk r (after ≡ next) → OnErr r (after ≡ v) → after.config ≡ v.config
config_or_not r v after next same ok err = grind arith

-- ---- connections that are served

visit_config : {W : Type 0} {v after : ServerValue} {h : History W} → IsVisitStep v after h → after.config ≡ v.config
visit_config {v = v} (BytesTaken after h taken) = elim taken.how [
  | inl served ↦ ap (λ u. u.config) served.1.server ∙ served_config v taken.id taken.bytes served.1.responses
  | inr partly ↦ partly_config partly
]
visit_config (InputEnded id) = refl
visit_config (BytesWritten id n) = refl
visit_config (ConnectionDropped id wire) = refl

visits_config : {W : Type 0} {v after : ServerValue} {h : History W} → AreSteps IsVisitStep v after h
    → after.config ≡ v.config
visits_config NoStep = refl
visits_config (OneMore w after h more so_far step) = visit_config step ∙ visits_config so_far

pub served_same : {W : Type 0} {Known : History W → Type 0} {v after : ServerValue} → HasServed Known v after
    → after.config ≡ v.config
served_same made = visits_config made.made

-- ---- the numbers of connections, which takes keep

asked_keys : (v : ServerValue) (id : ℕ) (left response : List ℕ)
    → keys_of (ask_result v id left response).server.sessions ≡ keys_of v.sessions
asked_keys v id left response = grind (arith, taken_keys v id left, keys_where_settled)

served_keys : (v : ServerValue) (id : ℕ) (bytes : List ℕ) (responses : List (List ℕ))
    → keys_of (served v id bytes responses).fed.server.sessions ≡ keys_of v.sessions
unfolding served
served_keys v id bytes [] = refl
served_keys v id bytes (response ∷ responses) =
    asked_keys (served v id bytes responses).fed.server id _ response ∙ served_keys v id bytes responses

pub partly_keys : {v after : ServerValue} {id : ℕ} {bytes : List ℕ} {reported : List AcceptedCall → Type 0}
    {asks : List Exchange → Type 0} → IsPartlyServed v id bytes after reported asks
    → keys_of after.sessions ≡ keys_of v.sessions
partly_keys {v = v} {id = id} {bytes = bytes} so =
    ap (λ u. keys_of u.sessions) so.refused.1 ∙ taken_keys (served v id bytes so.responses).fed.server id _
    ∙ served_keys v id bytes so.responses

-- ---- later responses

pub later_config : {v after : ServerValue} {n : ℕ} {events : List AcceptedCall} {exchanges : List Exchange}
    → AreGivenLater v n after events exchanges → after.config ≡ v.config
later_config NothingGiven = refl
later_config (OneMoreGiven n u events exchanges id bytes outcome so_far refused reply) =
    offered_config u id bytes ∙ later_config so_far

-- ---- silent connections

acted_config : {W : Type 0} (action : SilenceAction) (refusal : Option ReleaseFault) (now : ℕ) (v : ServerValue)
    (e : ℕ × Peer W) → (acted action refusal now v e).server.config ≡ v.config
acted_config action refusal now v e = grind arith

pub swept_config : {W : Type 0} (idle now : ℕ) (v : ServerValue) (es : List (ℕ × Peer W))
    → (swept idle now v es).server.config ≡ v.config
unfolding swept
swept_config idle now v [] = refl
swept_config idle now v (e ∷ es) =
    swept_config idle now (swept_one idle now v e).server es
    ∙ acted_config (silence_action idle now (status_of v e.0) e.1.activity) (released_refusal v e.0) now v e

-- ---- the calls of a run

only : (e : AcceptedCall) → IsRunCall e → All IsRunCall (e ∷ [])
only e is = All-cons IsRunCall e [] is (All-nil IsRunCall)

-- ---- responses

response_made : (id : ℕ) (r : Result Message FormatFault) → All IsRunCall (response_event id r)
response_made id (Ok m) = only (Responded id m) tt
response_made id (Err e) = All-nil IsRunCall

offered_made : (v : ServerValue) (id : ℕ) (bytes : List ℕ) → All IsRunCall (offered_events v id bytes)
offered_made v id bytes =
    elim (is_none (responded_refusal v id bytes))
    as (λ given. All IsRunCall (if given then response_event id (message_of bytes) else [])) [
      | true ↦ response_made id (message_of bytes)
      | false ↦ All-nil IsRunCall
    ]

request_made : (v : ServerValue) (id limit : ℕ) (response : List ℕ) (m : Option Message)
    → All IsRunCall (asking v id limit response m).events
request_made v id limit response None = All-nil IsRunCall
request_made v id limit response (Some m) = offered_made v id _

later_made : {v w : ServerValue} {n : ℕ} {events : List AcceptedCall} {exchanges : List Exchange}
    → AreGivenLater v n w events exchanges → All IsRunCall events
later_made NothingGiven = All-nil IsRunCall
later_made (OneMoreGiven n u events exchanges id bytes outcome so_far refused reply) =
    All-append IsRunCall events (offered_events u id bytes) (later_made so_far) (offered_made u id bytes)

-- ---- takes

served_made : (v : ServerValue) (id : ℕ) (bytes : List ℕ) (responses : List (List ℕ))
    → All IsRunCall (served v id bytes responses).events
unfolding served
served_made v id bytes [] = All-nil IsRunCall
served_made v id bytes (response ∷ responses) =
    All-append IsRunCall (served v id bytes responses).events _ (served_made v id bytes responses)
    (All-cons IsRunCall (Took id _) _ tt (request_made _ id _ response _))

taken_made : {W : Type 0} {v after : ServerValue} {h : History W} → AreTakenWith v after h → All IsRunCall h.events
taken_made {v = v} step = elim step.how [
  | inl whole ↦ rw whole.1.reports (served_made v step.id step.bytes whole.1.responses)
  | inr part ↦
      rw part.reports (All-push IsRunCall (served v step.id step.bytes part.responses).events _
      (served_made v step.id step.bytes part.responses) tt)
]

-- ---- steps

all_made : {W : Type 0} {Step : ServerValue → ServerValue → History W → Type 0}
    → ((v after : ServerValue) (h : History W) → Step v after h → All IsRunCall h.events)
    → {v after : ServerValue} {h : History W} → AreSteps Step v after h → All IsRunCall h.events
all_made each NoStep = All-nil IsRunCall
all_made each (OneMore w after h more so_far step) =
    All-append IsRunCall h.events more.events (all_made each so_far) (each w after more step)

visit_made : {W : Type 0} {v w : ServerValue} {h : History W} → IsVisitStep v w h → All IsRunCall h.events
visit_made (BytesTaken after h step) = taken_made step
visit_made (InputEnded id) = only (Ended id) tt
visit_made (BytesWritten id n) = only (Wrote id n) tt
visit_made (ConnectionDropped id wire) = only (Dropped id) tt

-- ---- a turn

opening_made : {W : Type 0} (v : ServerValue) (handed : Option W) → All IsRunCall (opening_events v handed)
opening_made v None = All-nil IsRunCall
opening_made v (Some wire) = only (Opened (v.ids + 1)) tt

turn_made : {W : Type 0} {v w : ServerValue} {h : History W} → AreTurnSteps v w h → All IsRunCall h.events
turn_made (NotOpened wire may) = All-nil IsRunCall
turn_made {v = v} (VisitsMade handed after visits steps) =
    All-append IsRunCall (opening_events v handed) visits.events (opening_made v handed)
    (all_made (λ v w h step. visit_made step) steps)

ticked_made : (v : ServerValue) (moment : ℕ) → All IsRunCall (ticked_calls v moment)
ticked_made v moment =
    elim (moment == v.shared.now) as (λ same. All IsRunCall (if same then [] else Ticked moment ∷ [])) [
      | true ↦ All-nil IsRunCall
      | false ↦ only (Ticked moment) tt
    ]

moved_made : (v : ServerValue) (moment : ℕ) → All IsRunCall (moved_calls v moment)
moved_made v moment =
    elim (nat_le v.shared.now moment) as (λ later. All IsRunCall (if later then ticked_calls v moment else [])) [
      | true ↦ ticked_made v moment
      | false ↦ All-nil IsRunCall
    ]

-- ---- a run

step_made : {W : Type 0} {v w : ServerValue} {h : History W} → IsRunStep v w h → All IsRunCall h.events
step_made (SilentReleased id) = only (Released id) tt
step_made (SilentDropped id wire) = only (Dropped id) tt
step_made {v = v} (TimeSet moment) = moved_made v moment
step_made (LaterGiven after h is_full requested uncalled) = rw requested.reports (later_made requested.given)
step_made (TurnMade after h turn) = turn_made turn
step_made (DoorWaited wait opens) = All-nil IsRunCall
step_made (WireReturned wire) = All-nil IsRunCall

pub run_made : {W : Type 0} {v w : ServerValue} {h : History W} → AreSteps IsRunStep v w h → All IsRunCall h.events
run_made steps = all_made (λ v w h step. step_made step) steps
