-- Defined by this project: steps as connections receive them. After a stop, the end of input no longer says whether it
-- cuts a message. So events that differ only in bytes that nobody handles make the same steps.
use Rattle.std.specs.Prelude.{ℕ, Bool, false, ◌&&◌, List, [], ◌∷◌, Option, Some, None}
use Rattle.coap_conn.specs.Limits.{LimitValues}
use Rattle.coap_conn.specs.Phases.{takes_messages}
use Rattle.coap_model.specs.Configs.{ConfigValues}
use Rattle.coap_model.specs.world.Connections.{Connection, kept_on}
use Rattle.coap_model.specs.world.World.{World, Step, Opened, Handled, Faulted, Written, Ticked, Stored, Removed, Ended}
use Rattle.coap_model.specs.world.World.{Released, Announced, Responded, Dropped, new_world, side_of, step}
use Rattle.coap_model.specs.world.Events.{AcceptedCall, stream_on, steps_of, world_after}

-- The connection exists and accepts messages.
abbrev pub takes_input : Option Connection → Bool
takes_input None = false
takes_input (Some s) = takes_messages s.history.phase

-- A step as it is received in a world: the end of input cuts a message only if the connection accepts messages.
abbrev pub normalised_step : World → Step → Step
normalised_step w (Opened id) = Opened id
normalised_step w (Handled id m) = Handled id m
normalised_step w (Faulted id fault) = Faulted id fault
normalised_step w (Written id n) = Written id n
normalised_step w (Ticked now) = Ticked now
normalised_step w (Stored path format bytes) = Stored path format bytes
normalised_step w (Removed path) = Removed path
normalised_step w (Ended id cut) = Ended id (takes_input (side_of id w.sides) && cut)
normalised_step w (Released id) = Released id
normalised_step w (Announced id size) = Announced id size
normalised_step w (Responded id m) = Responded id m
normalised_step w (Dropped id) = Dropped id

-- A list of steps as they are received, each in the world before it.
unfoldable pub received_steps : LimitValues → World → List Step → List Step
received_steps limits w [] = []
received_steps limits w (s ∷ ss) = normalised_step w s ∷ received_steps limits (step limits w s) ss

-- The steps of events as they are received, from the start of the server.
unfoldable pub normalised_steps : ConfigValues → List AcceptedCall → List Step
normalised_steps c events = received_steps c.limits (new_world c) (steps_of c.limits.max_message events)

-- The bytes of `rest` that are kept as an unfinished message: all, or none if the connection does not exist or no
-- longer accepts messages.
abbrev pub kept_of : List ℕ → Option Connection → List ℕ
kept_of rest None = []
kept_of rest (Some s) = kept_on s rest

-- The bytes that a connection keeps of an unfinished message after events.
abbrev pub kept_at : ConfigValues → List AcceptedCall → ℕ → List ℕ
kept_at c events id = kept_of (stream_on c.limits.max_message id events).rest (side_of id (world_after c events).sides)
