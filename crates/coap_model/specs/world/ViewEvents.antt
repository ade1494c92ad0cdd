-- Defined by this project: the part of a server's events that one connection can see, as a list of events itself. The
-- connection is opened first in it, so it may have another id.
use Rattle.std.specs.Prelude.{ℕ, ◌+◌, List, [], ◌∷◌, ◌++◌, ◌==◌, if◌then◌else◌}
use Rattle.coap_conn.specs.Limits.{LimitValues}
use Rattle.coap_store.specs.Answer.{Change, Nothing, Put, Delete}
use Rattle.coap_model.specs.Configs.{ConfigValues}
use Rattle.coap_model.specs.world.World.{World, Step, step}
use Rattle.coap_model.specs.world.Events.{AcceptedCall, Opened, Took, Wrote, Ticked, Stored, Removed, Ended, Released}
use Rattle.coap_model.specs.world.Events.{Announced, Responded, Dropped, steps_by, world_after}
use Rattle.coap_model.specs.world.View.{change_by}

-- The id of the connection that is opened first.
abbrev pub first_number : ConfigValues → ℕ
first_number c = c.starts.ids + 1

-- The event of the embedding program that makes the same change; none for `Nothing`.
abbrev pub change_events : Change → List AcceptedCall
change_events Nothing = []
change_events (Put path format bytes) = Stored path format bytes ∷ []
change_events (Delete path) = Removed path ∷ []

-- The changes that steps make in the store, as events. Each step is considered in the world before it.
unfoldable pub changes_of : LimitValues → World → List Step → List AcceptedCall
changes_of limits w [] = []
changes_of limits w (s ∷ ss) = change_events (change_by w s) ++ changes_of limits (step limits w s) ss

-- The event e if `other` is the id of the viewing connection, otherwise nothing.
abbrev pub if_own : ℕ → ℕ → AcceptedCall → List AcceptedCall
if_own id other e = if other == id then e ∷ [] else []

-- The view of an event after earlier events.
-- An event of the connection itself has the id that the connection has in the view. Bytes accepted on another
-- connection become the changes that they make in the store. All other events of another connection are left out.
unfoldable pub view_event : ConfigValues → ℕ → List AcceptedCall → AcceptedCall → List AcceptedCall
view_event c id earlier (Opened other) = if_own id other (Opened (first_number c))
view_event c id earlier (Took other bytes) =
    if other == id then Took (first_number c) bytes ∷ []
    else changes_of c.limits (world_after c earlier) (steps_by c.limits.max_message earlier (Took other bytes))
view_event c id earlier (Wrote other n) = if_own id other (Wrote (first_number c) n)
view_event c id earlier (Ticked now) = Ticked now ∷ []
view_event c id earlier (Stored path format bytes) = Stored path format bytes ∷ []
view_event c id earlier (Removed path) = Removed path ∷ []
view_event c id earlier (Ended other) = if_own id other (Ended (first_number c))
view_event c id earlier (Released other) = if_own id other (Released (first_number c))
view_event c id earlier (Announced other size) = if_own id other (Announced (first_number c) size)
view_event c id earlier (Responded other m) = if_own id other (Responded (first_number c) m)
view_event c id earlier (Dropped other) = if_own id other (Dropped (first_number c))

-- The view of a list of events after earlier events.
unfoldable pub later_view : ConfigValues → ℕ → List AcceptedCall → List AcceptedCall → List AcceptedCall
later_view c id earlier [] = []
later_view c id earlier (e ∷ es) = view_event c id earlier e ++ later_view c id (earlier ++ e ∷ []) es

-- The view of a list of events, from the start of the server.
unfoldable pub view_events : ConfigValues → ℕ → List AcceptedCall → List AcceptedCall
view_events c id events = later_view c id [] events
