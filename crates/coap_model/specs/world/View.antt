-- Defined by this project: the part of a server's steps that one connection can see. These are its own steps, the
-- changes of the time, and the changes of the store without who made them.
use Rattle.std.specs.Prelude.{◌≡◌, ℕ, Bool, true, List, [], ◌∷◌, ◌++◌, Option, Some, None, ◌==◌, if◌then◌else◌}
use Rattle.std.specs.List.{AllByRecursion}
use Rattle.coap_wire.specs.Message.{Message}
use Rattle.coap_conn.specs.Limits.{LimitValues}
use Rattle.coap_store.specs.Answer.{Change, Nothing, Put, Delete}
use Rattle.coap_model.specs.Configs.{ConfigValues}
use Rattle.coap_model.specs.world.Connections.{Connection, change_after}
use Rattle.coap_model.specs.world.World.{World, new_world, side_of, Step, Opened, Handled, Faulted, Written, Ticked}
use Rattle.coap_model.specs.world.World.{Stored, Removed, Ended, Released, Announced, Responded, Dropped, step}
use Rattle.coap_model.specs.world.World.{after_steps}

-- ---- changes of the store

-- The step of the embedding program that makes the same change; none for `Nothing`.
abbrev pub change_steps : Change → List Step
change_steps Nothing = []
change_steps (Put path format bytes) = Stored path format bytes ∷ []
change_steps (Delete path) = Removed path ∷ []

-- The change that a message makes in the store if this connection receives it; none if the connection does not exist.
abbrev pub change_on : World → Message → Option Connection → Change
change_on w m None = Nothing
change_on w m (Some s) = change_after w.store w.now s m

-- The change that a message on a connection makes in the store.
abbrev pub change_made : World → ℕ → Message → Change
change_made w id m = change_on w m (side_of id w.sides)

-- The change that a connection's step makes in the store. Only a message makes one. (`Stored` and `Removed` are steps
-- of no connection.)
abbrev pub change_by : World → Step → Change
change_by w (Opened id) = Nothing
change_by w (Handled id m) = change_made w id m
change_by w (Faulted id fault) = Nothing
change_by w (Written id n) = Nothing
change_by w (Ticked now) = Nothing
change_by w (Stored path format bytes) = Nothing
change_by w (Removed path) = Nothing
change_by w (Ended id cut) = Nothing
change_by w (Released id) = Nothing
change_by w (Announced id size) = Nothing
change_by w (Responded id m) = Nothing
change_by w (Dropped id) = Nothing

-- ---- the view of a connection

-- The step is one of this connection, or of no connection.
unfoldable pub concerns : ℕ → Step → Bool
concerns id (Opened other) = other == id
concerns id (Handled other m) = other == id
concerns id (Faulted other fault) = other == id
concerns id (Written other n) = other == id
concerns id (Ticked now) = true
concerns id (Stored path format bytes) = true
concerns id (Removed path) = true
concerns id (Ended other cut) = other == id
concerns id (Released other) = other == id
concerns id (Announced other size) = other == id
concerns id (Responded other m) = other == id
concerns id (Dropped other) = other == id

-- The view of a step: the step itself if it concerns the connection, otherwise only the change that it makes in the
-- store.
unfoldable pub view_step : ℕ → World → Step → List Step
view_step id w s = if concerns id s then s ∷ [] else change_steps (change_by w s)

-- The view of a list of steps, each considered in the world before it.
unfoldable pub view_of : LimitValues → ℕ → World → List Step → List Step
view_of limits id w [] = []
view_of limits id w (s ∷ ss) = view_step id w s ++ view_of limits id (step limits w s) ss

-- The world after the view that a connection has of these steps, from the start of the server.
abbrev pub after_view : ConfigValues → ℕ → List Step → World
after_view c id ss = after_steps c.limits (new_world c) (view_of c.limits id (new_world c) ss)

-- Each of these steps concerns the connection.
abbrev pub AllConcern : ℕ → List Step → Type 0
AllConcern id ss = AllByRecursion (λ s. concerns id s ≡ true) ss
