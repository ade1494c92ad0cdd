-- Defined by this project: the value of a server after a list of events, computed from the events alone.
use Rattle.std.specs.Prelude.{◌≡◌, ℕ, ◌≤◌, List, [], map, ◌∷◌, ◌++◌, take, IfSome}
use Rattle.coap_model.specs.Configs.{ConfigValues}
use Rattle.coap_server_session.specs.values.Sessions.{SessionValue}
use Rattle.coap_server_engine.specs.values.Servers.{ServerValue}
use Rattle.coap_server_session.specs.views.SessionShows.{session_shown}
use Rattle.coap_model.specs.world.World.{ConnectionEntry, World}
use Rattle.coap_model.specs.world.Events.{AcceptedCall, Took, stream_on, world_after, AreAccepted}
use Rattle.coap_model.specs.declared.answers.TakeFault.{TakeFault}
use Rattle.coap_model.specs.declared.answers.TakeFault.TheVariants as fault

-- The entry of a connection of the model, with the bytes of its unfinished frame.
abbrev pub place_shown : ℕ → List AcceptedCall → ConnectionEntry → ℕ × SessionValue
place_shown M events p = (p.id, session_shown (stream_on M p.id events).rest p.side)

-- The value of a server for a world that was reached by these events.
abbrev pub server_shown : ConfigValues → List AcceptedCall → World → ServerValue
server_shown c events w = record {
  config = c;
  shared = record { store = w.store; now = w.now };
  ids = w.ids;
  sessions = map (place_shown c.limits.max_message events) w.sides;
}

-- The value of a server after these events.
unfoldable pub server_of : ConfigValues → List AcceptedCall → ServerValue
server_of c events = server_shown c events (world_after c events)

-- A server shows a list of events if its calls accepted them, and its value is exactly what they determine. `Shows`
-- does not require that a path names a resource, that a format has 16 bits, or that a byte is below 256. The types of
-- the calls exclude other values.
pub record Shows (v : ServerValue) (events : List AcceptedCall) : Type 0 where
  pub accepted : AreAccepted v.config events
  pub same : v ≡ server_of v.config events
  -- The time at which the server starts fits in 64 bits.
  pub moment : v.config.starts.moment ≤ 18446744073709551615
  -- The application, if there is one, has at least one second for a response.
  pub deadline : IfSome v.config.applications (λ a. 1 ≤ a.deadline)

-- States the events that a server shows after a `take` that failed. If no connection has this id, they are the same. If
-- allocation failed, the first `bytes` bytes of `piece` were accepted.
abbrev pub ShowsRefused : List AcceptedCall → ℕ → List ℕ → TakeFault → ServerValue → Type 0
ShowsRefused events id piece fault.NoSuch v = Shows v events
ShowsRefused events id piece (fault.Memory bytes) v = Shows v (events ++ Took id (take bytes piece) ∷ [])
