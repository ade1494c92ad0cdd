-- Defined by this project: a run over the connections of a listener, as whole turns, and its history.
use Rattle.std.specs.Prelude.{ℕ, ◌≡◌, ◌≤◌, ◌⊎◌, ◌+◌, ◌^◌, ◌-◌, ◌==◌, min, nat_le, nat_lt, Bool, false, List, [], ◌∷◌}
use Rattle.std.specs.Prelude.{◌++◌, length, map, Option, Some, None, Result, Ok, Err, is_none, if◌then◌else◌}
use Rattle.std.specs.Map.{values_of}
use Rattle.coap_io.specs.declared.wire.Wait.{Wait}
use Rattle.coap_io.specs.declared.wire.Wait.TheVariants.{No, Until, Forever}
use Rattle.coap_io.specs.streams.DeviceTraces.{Closed, DoorCall, Waited}
use Rattle.coap_io.specs.streams.Wires.{wait_at_most}
use Rattle.coap_server_engine.specs.Prelude.{ConfigValues, AcceptedCall, Ticked, Stored, Removed, Released, Announced}
use Rattle.coap_server_engine.specs.Prelude.{AreRequestedLater, open_refusal, ServerValue, config_with, new_server}
use Rattle.coap_server_engine.specs.Prelude.{ShowsMore, server_dropped, server_released, server_ticked}
use Rattle.coap_model.specs.declared.config.Config.{Config}
use Rattle.coap_server_engine.specs.declared.io_fault.IoFault.{IoFault}
use Rattle.coap_server_engine.specs.declared.io_fault.IoFault.TheVariants.{Memory, Turns}
use Rattle.coap_server_engine.specs.declared.application.NoApplication.{NoApplication}
use Rattle.coap_server_engine.specs.values.Exchanges.{Answering, AnswersMore, AreUnanswered}
use Rattle.coap_serve.specs.declared.door.peer.Peer.{Peer}
use Rattle.coap_serve.specs.declared.door.service.ServiceConfig.{ServiceConfig}
use Rattle.coap_serve.specs.declared.door.service.Times.{Times}
use Rattle.coap_serve.specs.listener.Histories.{AreSteps, HasAccepted, History, calls_only, door_only, history_then}
use Rattle.coap_serve.specs.listener.Histories.{no_history, one_call, one_drop}
use Rattle.coap_serve.specs.listener.Serving.{AreTurnSteps, HasTurned, IsTurnBy, LoopState, Views, loop_state, way}
use Rattle.coap_serve.specs.listener.Silence.{Sweep, due_sweep}
use Rattle.coap_serve.specs.listener.Sleepers.{ArePaired}

-- ---- the time of the server

-- The server after its clock returned this time. An earlier time changes nothing.
abbrev pub moved_to : ServerValue → (moment : ℕ) → ServerValue
moved_to v moment = if nat_le v.shared.now moment then server_ticked v moment else v

-- The call that sets the time of the server, if it changes.
abbrev pub ticked_calls : ServerValue → (moment : ℕ) → List AcceptedCall
ticked_calls v moment = if moment == v.shared.now then [] else Ticked moment ∷ []

-- The call that sets the time of the server, if it is accepted and changes the time.
abbrev pub moved_calls : ServerValue → (moment : ℕ) → List AcceptedCall
moved_calls v moment = if nat_le v.shared.now moment then ticked_calls v moment else []

-- ---- the history of a run

-- A step of a run. A silent connection is released or dropped, the time is set, or the application gives later
-- responses. Or a turn is made, in full or in part. Or the listener waits, or gets a wire back at the end.
pub data IsRunStep {W : Type 0} (v : ServerValue) : ServerValue → History W → Type 0 where
  SilentReleased : (id : ℕ) → IsRunStep v (server_released v id) (one_call (Released id))
  SilentDropped : (id : ℕ) (wire : W) → IsRunStep v (server_dropped v id) (one_drop id wire)
  TimeSet : (moment : ℕ) → IsRunStep v (moved_to v moment) (calls_only (moved_calls v moment))
  LaterGiven : (after : ServerValue) (h : History W) (is_full : Bool)
      → AreRequestedLater v 256 is_full after (λ all. h.events ≡ all) (λ all. h.exchanges ≡ all) → h.calls ≡ []
      → IsRunStep v after h
  TurnMade : (after : ServerValue) (h : History W) → AreTurnSteps v after h → IsRunStep v after h
  DoorWaited : (wait : Wait) (opens : Bool) → IsRunStep v v (door_only (Waited wait opens ∷ []))
  WireReturned : (wire : W) → IsRunStep v v (door_only (Closed wire ∷ []))

-- A call that a run makes. It stores and removes no resource for the embedding program, and announces no message size.
-- So a script can make each of these calls again, from its line in a record alone.
abbrev pub IsRunCall : AcceptedCall → Type 0
IsRunCall (Stored path format bytes) = ⊥
IsRunCall (Removed path) = ⊥
IsRunCall (Announced id size) = ⊥
IsRunCall call = Unit {0}

-- The server made such steps, and nothing else happened.
abbrev pub HasRun : {W : Type 0} (Known : History W → Type 0) (v after : ServerValue) → Type 0
HasRun Known v after = HasAccepted (AreSteps IsRunStep v after) Known v after

-- ---- the wait after a turn

-- A wait, but at most as long as an application allows.
abbrev pub wait_within : (limit wait : Wait) → Wait
wait_within No wait = No
wait_within (Until moment) wait = wait_at_most moment wait
wait_within Forever wait = wait

-- The limit of the wait. There is no wait if the application may have more later responses.
abbrev pub limit_for : (is_full : Bool) → Wait → Wait
limit_for is_full limit = if is_full then No else limit

-- The wait of a listener, if the server has this time: with a limit of silence and a connection, at most until the next
-- second.
abbrev pub short_wait : {W : Type 0} (idle : Option ℕ) (moment : ℕ) → List (ℕ × Peer W) → Wait → Wait
short_wait None moment es wait = wait
short_wait (Some idle) moment [] wait = wait
short_wait (Some idle) moment (e ∷ es) wait = wait_at_most (min (moment + 1) (2 ^ 64 - 1)) wait

-- ---- a turn

-- A service between two turns: its server and connections, the time of its last turn, and its limit of silence.
pub record ServiceValue (W : Type 0) : Type 0 where
  pub state : LoopState W
  pub second : ℕ
  pub idle : Option ℕ

abbrev pub service_of : {W : Type 0} → ServerValue → List (ℕ × Peer W) → (second : ℕ)
    → (idle : Option ℕ) → ServiceValue W
service_of server entries second idle = record { state = loop_state server entries; second = second; idle = idle }

-- The environment of a run. `follows` states the exchanges that the application may have, and `rests` when it has no
-- later response. `waits` states how long it lets the listener wait at a time. `views` are the records of the wires.
pub record Environment (A W : Type 0) : Type 1 where
  pub follows : A → Answering
  pub rests : A → Type 0
  pub waits : ℕ → Wait → Type 0
  pub views : Views W

abbrev pub environment : {A W : Type 0} (follows : A → Answering) (rests : A → Type 0) (waits : ℕ → Wait → Type 0)
    (views : Views W) → Environment A W
environment follows rests waits views = record { follows = follows; rests = rests; waits = waits; views = views }

-- An application lets the listener wait this long, at this time.
abbrev pub some_waits : {A : Type 0} (waits : A → ℕ → Wait → Type 0) → ℕ → Wait → Type 0
some_waits {A} waits now limit = (one : A) × waits one now limit

-- The result of the parts of a turn before its visits.
pub record TurnStart (W : Type 0) : Type 0 where
  pub server : ServerValue
  pub is_full : Bool
  pub history : History W

-- The parts of a turn before its visits, at these times. Silent connections are released or dropped, the time is set,
-- and later responses are given. The application is asked for them until it has none (`rests`), or until it has given
-- 256. The history is that of the parts, in order.
pub record IsBegun {A W : Type 0} (follows : A → Answering) (rests : A → Type 0) (times : Times) (s : ServiceValue W)
    (start : TurnStart W) : Type 0 where
  pub sweep : Sweep W
  pub is_swept : sweep ≡ due_sweep s.idle s.second times.second s.state.server s.state.entries
  pub later : History W
  pub given : AreRequestedLater (moved_to sweep.server times.now) 256 start.is_full start.server
      (λ all. later.events ≡ all)
      (λ all. (later.exchanges ≡ all) × (one other : A) × (start.is_full ≡ false → rests other)
      × AnswersMore (follows one) (follows other) all)
  pub uncalled : later.calls ≡ []
  pub all : start.history
      ≡ history_then sweep.history (history_then (calls_only (moved_calls sweep.server times.now)) later)

-- One turn at these times. After the parts before its visits, a connection may be opened, and each one is served.
pub record IsTurnFor {A W : Type 0} (E : Environment A W) (times : Times) (s after : ServiceValue W) (wait : Wait)
    (h : History W) : Type 0 where
  pub start : TurnStart W
  pub begun : IsBegun E.follows E.rests times s start
  pub limit : Wait
  pub allowed : E.waits times.now limit
  pub next : Wait
  pub visits : History W
  pub turn : IsTurnBy (way E.follows times.second E.views) (loop_state start.server begun.sweep.entries) after.state
      next visits
  pub shows : ShowsMore start.server after.state.server visits.events
  pub all : h ≡ history_then start.history visits
  pub waits : wait ≡ short_wait s.idle after.state.server.shared.now after.state.entries
      (wait_within (limit_for start.is_full limit) next)
  pub second : after.second ≡ times.second
  pub idle : after.idle ≡ s.idle

-- A turn at these times in which an allocation failed. The parts before its visits were made in full, and these in full
-- or in part. `last` is the server then.
pub record IsCutTurn {A W : Type 0} (follows : A → Answering) (rests : A → Type 0) (times : Times) (s : ServiceValue W)
    (last : ServerValue) (h : History W) : Type 0 where
  pub start : TurnStart W
  pub begun : IsBegun follows rests times s start
  pub cut : HasTurned (λ visits. h ≡ history_then start.history visits) start.server last

-- The call of a listener after a turn: it waits, and learns whether another connection may be opened. There is none
-- before the first turn.
abbrev pub waited_after : {W : Type 0} → (turns : ℕ) → Wait → (opens : Bool) → List (DoorCall W)
waited_after turns wait opens = if nat_lt 0 turns then (Waited wait opens ∷ []) else []

-- ---- whole turns

-- The configuration of the server of a service.
abbrev pub config_of : ServiceConfig → ConfigValues
config_of c = config_with c.config c.applications

-- The configuration of a service without an application and without a limit of silence.
abbrev pub plain_config : Config → ServiceConfig
plain_config c = record { config = c; applications = None; idle = None }

-- A service before its first turn.
abbrev pub new_service : {W : Type 0} → ServiceConfig → ServiceValue W
new_service c = service_of (new_server (config_of c)) [] 0 c.idle

-- The traces of a run: the times of its turns, and the history.
pub record RunTrace (W : Type 0) : Type 0 where
  pub times : List Times
  pub history : History W

abbrev pub no_trace : {W : Type 0} → RunTrace W
no_trace = record { times = []; history = no_history }

abbrev pub trace_then : {W : Type 0} → RunTrace W → RunTrace W → RunTrace W
trace_then t u = record { times = t.times ++ u.times; history = history_then t.history u.history }

-- The trace of one turn, after this number of turns: the wait before it, and its history.
abbrev pub turn_trace : {W : Type 0} (turns : ℕ) (wait : Wait) → ServiceValue W → Times → History W → RunTrace W
turn_trace turns wait s times h = record {
  times = times ∷ [];
  history = history_then (door_only (waited_after turns wait (is_none (open_refusal s.state.server)))) h;
}

-- The calls of a listener that gets back the wires of these connections, in order.
abbrev pub closings : {W : Type 0} → List (ℕ × Peer W) → List (DoorCall W)
closings es = map (λ p. Closed p.wire) (values_of es)

-- A trace at whose end the listener gets back the wires of these connections.
abbrev pub ended : {W : Type 0} → RunTrace W → List (ℕ × Peer W) → RunTrace W
ended t es = record t { history = history_then t.history (door_only (closings es)) }

-- Whole turns on a new service, one after the other. Before each turn but the first, the listener waits as long as the
-- last turn returned.
pub data AreTurns {A W : Type 0} (E : Environment A W) (c : ServiceConfig) : RunTrace W
    → ServiceValue W → Wait → Type 0 where
  NoneMade : AreTurns E c no_trace (new_service c) No
  OneMade : (t : RunTrace W) (s : ServiceValue W) (wait : Wait) (times : Times) (h : History W)
      (after : ServiceValue W) (next : Wait) → AreTurns E c t s wait → IsTurnFor E times s after next h
      → AreTurns E c (trace_then t (turn_trace (length t.times) wait s times h)) after next

-- ---- a run

-- The knowledge of a run: the times of both clocks, and the history.
pub record KnownOfRun (W : Type 0) : Type 1 where
  pub clock : List ℕ → Type 0
  pub uptime : List ℕ → Type 0
  pub history : History W → Type 0

abbrev pub known_of_run : {W : Type 0} → (clock uptime : List ℕ → Type 0) (history : History W → Type 0) → KnownOfRun W
known_of_run clock uptime history = record { clock = clock; uptime = uptime; history = history }

-- Only the times of the clock and the calls of the listener are known.
abbrev pub clock_and_door : {W : Type 0} → (clock : List ℕ → Type 0) (door : List (DoorCall W) → Type 0) → KnownOfRun W
clock_and_door clock door = known_of_run clock (λ seconds. Unit {0}) (λ h. door h.calls)

-- The traces of a run match what is known of it.
abbrev pub Matches : {W : Type 0} → KnownOfRun W → RunTrace W → Type 0
Matches K t =
    K.clock (map (λ x. x.now) t.times) × K.uptime (map (λ x. x.second) t.times) × K.history t.history

-- A run that made every turn. At its end the listener gets back the wires of all open connections, in order.
pub record IsWholeRun {A W : Type 0} (E : Environment A W) (c : ServiceConfig) (K : KnownOfRun W)
    (last : ServerValue) : Type 0 where
  pub whole : RunTrace W
  pub service : ServiceValue W
  pub wait : Wait
  pub made : AreTurns E c whole service wait
  pub counted : length whole.times ≡ c.config.turns
  pub matches : Matches K (ended whole service.state.entries)
  pub ended : last ≡ service.state.server

-- A run in which an allocation failed in a turn, after some whole turns. At its end the listener gets back a wire for
-- each open connection, in order.
pub record IsCutRun {A W : Type 0} (E : Environment A W) (c : ServiceConfig) (K : KnownOfRun W)
    (last : ServerValue) : Type 0 where
  pub front : RunTrace W
  pub service : ServiceValue W
  pub wait : Wait
  pub made : AreTurns E c front service wait
  pub few : length front.times + 1 ≤ c.config.turns
  pub times : Times
  pub history : History W
  pub cut : IsCutTurn E.follows E.rests times service last history
  pub left : List (ℕ × Peer W)
  pub paired : ArePaired last left
  pub matches : Matches K
      (ended (trace_then front (turn_trace (length front.times) wait service times history)) left)

-- The end of a run that returned this error, with this last server. It is `Turns` if every turn was made. It is
-- `Memory` if an allocation failed, before the first turn or in one of them.
abbrev pub EndsRun : {A W : Type 0} → Environment A W → ServiceConfig → KnownOfRun W → ServerValue → IoFault → Type 0
EndsRun E c K last Memory = (Matches K no_trace × (last ≡ new_server (config_of c))) ⊎ IsCutRun E c K last
EndsRun E c K last Turns = IsWholeRun E c K last
EndsRun E c K last fault = ⊥

-- The application of a run without one: it writes no byte, has no later response, and lets the listener wait forever.
abbrev pub Silent : NoApplication → Answering
Silent a exchanges = AreUnanswered exchanges

abbrev pub Resting : NoApplication → Type 0
Resting a = Unit {0}

abbrev pub Unlimited : NoApplication → ℕ → Wait → Type 0
Unlimited a now wait = wait ≡ Forever

-- A run over the connections of a listener, which always ends with an error. Its history follows from the same steps:
-- each request that was handed over was shown, and the responses are those of the application. It also follows from the
-- traces of the clocks, the listener and the wires.
pub record EndsRunWith {A W : Type 0} (E : Environment A W) (c : ServiceConfig) (K : KnownOfRun W)
    (fault : IoFault) : Type 0 where
  pub last : ServerValue
  pub ran : HasRun K.history (new_server (config_of c)) last
  pub ends : EndsRun E c K last fault

abbrev pub IsRun : {A T W : Type 0} → Environment A W → ServiceConfig → KnownOfRun W → Result T IoFault → Type 0
IsRun E c K (Ok x) = ⊥
IsRun E c K (Err fault) = EndsRunWith E c K fault
