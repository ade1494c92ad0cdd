-- Defined by this project: the histories of a server and its listener, and what is known of them.
use Rattle.std.specs.Prelude.{ℕ, List, [], ◌∷◌, ◌++◌, Option}
use Rattle.coap_io.specs.streams.DeviceTraces.{AddsCalls, Closed, DoorCall}
use Rattle.coap_server_engine.specs.Prelude.{AcceptedCall, Dropped, ShowsMore, ServerValue}
use Rattle.coap_server_engine.specs.values.Calls.{Following, FollowsMore}
use Rattle.coap_server_engine.specs.values.Exchanges.{Answering, AnswersMore, Exchange, Gone}

-- ---- histories

-- The calls that a server accepted, the exchanges with the application, and the calls of the listener, each in order.
pub record History (W : Type 0) : Type 0 where
  pub events : List AcceptedCall
  pub exchanges : List Exchange
  pub calls : List (DoorCall W)

abbrev pub no_history : {W : Type 0} → History W
no_history = record { events = []; exchanges = []; calls = [] }

-- One history after another.
abbrev pub history_then : {W : Type 0} → History W → History W → History W
history_then h more = record {
  events = h.events ++ more.events;
  exchanges = h.exchanges ++ more.exchanges;
  calls = h.calls ++ more.calls;
}

-- Calls of the server alone.
abbrev pub calls_only : {W : Type 0} → List AcceptedCall → History W
calls_only events = record { events = events; exchanges = []; calls = [] }

abbrev pub one_call : {W : Type 0} → AcceptedCall → History W
one_call e = calls_only (e ∷ [])

-- Calls of the listener alone.
abbrev pub door_only : {W : Type 0} → List (DoorCall W) → History W
door_only calls = record { events = []; exchanges = []; calls = calls }

-- A connection was dropped. Its end was reported to the application, and its wire was given back to the listener.
abbrev pub one_drop : {W : Type 0} → ℕ → W → History W
one_drop id wire = record { events = Dropped id ∷ []; exchanges = Gone id ∷ []; calls = Closed wire ∷ [] }

-- ---- steps

-- Steps one after another, from the server `v` on. `Step` holds of the server before a step, the server after it, and
-- its history.
pub data AreSteps {W : Type 0} (Step : ServerValue → ServerValue → History W → Type 0) (v : ServerValue) : ServerValue
    → History W → Type 0 where
  NoStep : AreSteps Step v v no_history
  OneMore : (w after : ServerValue) (h more : History W) → AreSteps Step v w h → Step w after more
      → AreSteps Step v after (history_then h more)

-- ---- knowledge of a history

-- The knowledge at a time: the calls that the monitor received, the exchanges of the application, and the calls of a
-- listener that records them.
pub record Journal (W : Type 0) : Type 1 where
  pub calls : Following
  pub exchanges : Answering
  pub door : Option (List (DoorCall W))

-- The second journal is the first one, followed by this history.
pub record Continues {W : Type 0} (before after : Journal W) (h : History W) : Type 0 where
  pub calls : FollowsMore before.calls after.calls h.events
  pub exchanged : AnswersMore before.exchanges after.exchanges h.exchanges
  pub called : AddsCalls before.door after.door h.calls

-- For steps without a listener, it is that of one that records: `Some []` before them, and then the calls that it is to
-- have.
abbrev pub journal : {W : Type 0} (calls : Following) (exchanges : Answering) (door : Option (List (DoorCall W)))
    → Journal W
journal calls exchanges door = record { calls = calls; exchanges = exchanges; door = door }

-- The server accepted the calls of this history: if it showed some events before, it now shows them followed by these.
-- `Known` holds of the history.
pub record IsAccepted {W : Type 0} (Known : History W → Type 0) (v after : ServerValue) (h : History W) : Type 0 where
  pub shows : ShowsMore v after h.events
  pub known : Known h

-- A server has a history, of which `Made` holds.
pub record HasAccepted {W : Type 0} (Made Known : History W → Type 0) (v after : ServerValue) : Type 0 where
  pub history : History W
  pub made : Made history
  pub accepted : IsAccepted Known v after history

-- The server accepted these calls, and the monitor received them. The application had no exchange.
pub record AreCallsBetween (before later : Following) (v after : ServerValue)
    (events : List AcceptedCall) : Type 0 where
  pub shows : ShowsMore v after events
  pub follows : FollowsMore before later events
