-- The value that contracts see for `Server`, and its invariant.
use Rattle.std.specs.Prelude.{◌≤◌, length}
use Rattle.std.specs.List.{AllByRecursion}
use Rattle.coap_server_engine.specs.values.Servers.{ServerValue, config_with, AreSettled, unmarked, AreAllMarked}
use Rattle.coap_server_engine.specs.values.ConcernSets.{AreCovered}
use Rattle.coap_server_engine.specs.declared.server.Server.TheInside.{Inside}

-- The configuration of the value has the applications, which the store of the server has.
abbrev pub server_value : Inside → ServerValue
server_value s = record {
  config = config_with s.config s.shared.store.applications;
  shared = s.shared;
  ids = s.ids;
  sessions = unmarked s.sessions.entries;
}

-- Holds if every connection is settled and its id was given, and the connection limit is not exceeded.
pub record IsServer (v : ServerValue) : Type 0 where
  pub settled : AreSettled v.shared v.sessions
  pub numbered : AllByRecursion (λ e. e.0 ≤ v.ids) v.sessions
  pub few : length v.sessions ≤ v.config.connections

-- The invariant of `Server`. Also, an observer has a changed mark if and only if it must be sent the current state. The
-- sets have all connections that changes may concern.
pub record IsMarkedServer (s : Inside) : Type 0 where
  pub server : IsServer (server_value s)
  pub marked : AreAllMarked s.shared s.sessions.entries
  pub covered : AreCovered s.sets (unmarked s.sessions.entries)

abbrev pub is_server : Inside → Type 0
is_server s = IsMarkedServer s
