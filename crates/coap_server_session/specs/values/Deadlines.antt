-- Defined by this project: the times at which time alone may make something due on a connection.
use Rattle.std.specs.Prelude.{◌<◌, ℕ, ◌+◌, Bool, not, List, Option, Some, None, min, ◌==◌, if◌then◌else◌}
use Rattle.std.specs.List.{list_any}
use Rattle.coap_conn.specs.PendingEntries.{next_moment}
use Rattle.coap_path.specs.ResourceKinds.{kind_of_path, is_dynamic}
use Rattle.coap_server_session.specs.values.Sessions.{ObserverValue, SessionValue}

-- ---- times, in seconds

-- The earlier of two times, or the only one that is present.
abbrev pub sooner : Option ℕ → Option ℕ → Option ℕ
sooner None other = other
sooner (Some one) None = Some one
sooner (Some one) (Some other) = Some (min one other)

-- The next second, if it fits in 64 bits.
abbrev pub next_second : ℕ → Option ℕ
next_second now = if now == 18446744073709551615 then None else Some (now + 1)

-- `true` if an observer's path is built in. It is `/time` then, since no other built-in resource is observable.
abbrev pub is_time_observer : ObserverValue → Bool
is_time_observer o = not (is_dynamic (kind_of_path o.path))

-- The time of the next notification if an observer observes the time.
abbrev pub next_notified : ℕ → List ObserverValue → Option ℕ
next_notified now observers = if list_any is_time_observer observers then next_second now else None

-- The next time after `now` at which time alone may make something due on a connection. A delayed response is due then,
-- or an observer of the time must be notified.
abbrev pub due_on : ℕ → SessionValue → Option ℕ
due_on now s = sooner (next_moment now s.link.pending) (next_notified now s.observers)

-- Holds if `later` is before the deadline, or if there is no deadline.
abbrev pub IsBefore : ℕ → Option ℕ → Type 0
IsBefore later None = Unit {0}
IsBefore later (Some due) = later < due
