-- The values that contracts see for `Observer` and `Observers`, and their invariants.
use Rattle.std.specs.Prelude.{◌≡◌, ◌≤◌, Option, ℕ, length, map}
use Rattle.std.specs.List.{AllByRecursion}
use Rattle.std.specs.Vec.{vec_capacity}
use Rattle.coap_server_session.specs.values.Sessions.{ObserverValue, ObserversValue}
use Rattle.coap_server_session.specs.values.Deadlines.{is_time_observer}
use Rattle.coap_server_session.specs.values.Causes.{path_hash}
use Rattle.coap_server_session.specs.declared.observer.Observer.{Observer}
use Rattle.coap_server_session.specs.declared.observers.Observers.TheInside.{Inside}
use Rattle.coap_server_session.specs.views.ChainViews.{linked, AreChainedTo}
use Rattle.coap_server_session.specs.views.FlagViews.{AreFlagged}

abbrev pub observer_value : Observer → ObserverValue
observer_value o = record { token = o.token.items; path = o.path; format = o.format; mark = o.mark }

abbrev pub mark_in : Observer → Option ℕ
mark_in o = o.changed

abbrev pub observers_value : Inside → ObserversValue
observers_value o =
    record { room = o.room; entries = map observer_value o.entries.items; marks = map mark_in o.entries.items }

-- Holds if an observer stores the hash of its path, and whether the path is built in.
pub record IsTagged (o : Observer) : Type 0 where
  pub hash : o.hash ≡ path_hash o.path
  pub of_time : o.of_time ≡ is_time_observer (observer_value o)

-- The invariant of `Observers`: the capacity was allocated and is not exceeded. The chains link the observers, and the
-- flags are set for those with a changed mark.
pub record AreObservers (o : Inside) : Type 0 where
  pub few : length o.entries.items ≤ o.room
  pub reserved : o.room ≤ vec_capacity o.entries
  pub least : o.room ≤ 256
  pub tagged : AllByRecursion IsTagged o.entries.items
  pub chained : AreChainedTo (length o.entries.items) o.chains (map linked o.entries.items)
  pub flagged : AreFlagged o.marked (map mark_in o.entries.items)

abbrev pub are_observers : Inside → Type 0
are_observers o = AreObservers o
