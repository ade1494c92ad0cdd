-- The value of the code that represents a connection of the model.
use Rattle.std.specs.Prelude.{ℕ, List, map}
use Rattle.coap_conn.specs.History.{link_of}
use Rattle.coap_server_session.specs.values.Sessions.{ObserverValue, SessionValue}
use Rattle.coap_model.specs.world.Observers.{Observer, format_of, mark_sent}
use Rattle.coap_model.specs.world.Connections.{Connection, kept_on}

abbrev pub observer_shown : Observer → ObserverValue
observer_shown o = record { token = o.token; path = o.path; format = format_of o.reported; mark = mark_sent o.reported }

abbrev pub session_shown : List ℕ → Connection → SessionValue
session_shown rest s =
    record { frame = kept_on s rest; link = link_of s.history; observers = map observer_shown s.observers }
