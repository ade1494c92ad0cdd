-- Defined by this project: the deadlines of a server, and the work left on a connection.
use Rattle.std.specs.Prelude.{◌≡◌, ◌≢◌, ℕ, List, [], ◌∷◌, length, Option, None, nat_lt, option_map}
use Rattle.std.specs.List.{AllByRecursion}
use Rattle.std.specs.Map.{keys_of}
use Rattle.coap_conn.specs.Phases.{is_over}
use Rattle.coap_conn.specs.LinkValue.{is_finished}
use Rattle.coap_server_engine.specs.declared.server.ConnectionWork.{ConnectionWork}
use Rattle.coap_server_session.specs.values.Sessions.{SessionValue, session_takes}
use Rattle.coap_server_session.specs.values.Deadlines.{IsBefore, due_on, sooner}
use Rattle.coap_server_engine.specs.values.Servers.{ServerValue, LiesAt, session_of, server_ticked}
use Rattle.coap_server_engine.specs.values.IndexSets.{IsOutside}

-- Only the time changes when it advances to `later`. The queued bytes, the pending entries and the observers of every
-- connection stay the same.
abbrev pub OnlyTimePasses : ServerValue → ℕ → Type 0
OnlyTimePasses v later = server_ticked v later ≡ record v { shared = record v.shared { now = later } }

-- States that only the time changes when it advances to `later`, if `later` is before each deadline.
abbrev pub WaitsForDeadlines : ServerValue → ℕ → Type 0
WaitsForDeadlines v later =
    AllByRecursion (λ e. IsBefore later (due_on v.shared.now e.1)) v.sessions → OnlyTimePasses v later

-- The earliest of the deadlines of connections, if there is one.
unfoldable pub earliest_deadline : ℕ → List (ℕ × SessionValue) → Option ℕ
earliest_deadline now [] = None
earliest_deadline now (e ∷ es) = sooner (due_on now e.1) (earliest_deadline now es)

-- The next time at which time alone may make something due on a connection, if there is one.
abbrev pub next_deadline : ServerValue → Option ℕ
next_deadline v = earliest_deadline v.shared.now v.sessions

-- ---- the work left on a connection

abbrev pub session_work : ℕ → SessionValue → ConnectionWork
session_work now s = record {
  takes = session_takes s;
  stopped = is_over s.link.phase;
  waits = nat_lt 0 (length s.link.waiting);
  finished = is_finished s.link;
  due = due_on now s;
}

-- The work left on the connection with this id.
abbrev pub work_of : ServerValue → ℕ → Option ConnectionWork
work_of v id = option_map (session_work v.shared.now) (session_of id v.sessions)

-- Holds if each connection outside the set with these words is the same as before, with the same work left. No
-- connection was added, removed or moved.
pub record KeepsWork (words : List ℕ) (v after : ServerValue) : Type 0 where
  pub keys : keys_of after.sessions ≡ keys_of v.sessions
  pub same : (i id : ℕ) → LiesAt id i v.sessions → IsOutside words i
      → session_of id after.sessions ≡ session_of id v.sessions
  pub work : (i id : ℕ) → LiesAt id i v.sessions → IsOutside words i → work_of after id ≡ work_of v id

-- The same for each connection with another id than this one.
pub record KeepsOthers (id : ℕ) (v after : ServerValue) : Type 0 where
  pub keys : keys_of after.sessions ≡ keys_of v.sessions
  pub same : (other : ℕ) → other ≢ id → session_of other after.sessions ≡ session_of other v.sessions
  pub work : (other : ℕ) → other ≢ id → work_of after other ≡ work_of v other

-- The same for those of them that are outside the set with these words. The set has all connections that it had with
-- the words `before`.
pub record AddsAffected (id : ℕ) (before words : List ℕ) (v after : ServerValue) : Type 0 where
  pub keys : keys_of after.sessions ≡ keys_of v.sessions
  pub kept : (i : ℕ) → IsOutside words i → IsOutside before i
  pub same : (i other : ℕ) → other ≢ id → LiesAt other i v.sessions → IsOutside words i
      → session_of other after.sessions ≡ session_of other v.sessions
  pub work : (i other : ℕ) → other ≢ id → LiesAt other i v.sessions → IsOutside words i
      → work_of after other ≡ work_of v other
