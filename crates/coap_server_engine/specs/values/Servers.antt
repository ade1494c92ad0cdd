-- Defined by this project: the value of a server, and the effect of each call on it.
use Rattle.std.specs.Prelude.{◌≡◌, ℕ, zero, suc, ◌+◌, ◌<◌, Bool, true, false, not, List, [], ◌∷◌, ◌++◌, length, map}
use Rattle.std.specs.Prelude.{filter, Option, Some, None, Result, Ok, Err, slice_get, nat_eq, ◌==◌, if◌then◌else◌}
use Rattle.std.specs.List.{AllByRecursion, IsDistinct, position_or_len}
use Rattle.std.specs.Map.{keys_of, values_of}
use Rattle.coap_wire.specs.Message.{Message}
use Rattle.coap_wire.specs.Reading.{message_of}
use Rattle.coap_wire.specs.declared.fault.FormatFault.{FormatFault}
use Rattle.coap_path.specs.Paths.{Path}
use Rattle.coap_path.specs.Applications.{ApplicationsValue}
use Rattle.coap_store.specs.Store.{put_in, removed_in}
use Rattle.coap_model.specs.Configs.{ConfigValues}
use Rattle.coap_server_session.specs.declared.server_state.ServerState.{ServerState}
use Rattle.coap_server_session.specs.values.Sessions.{empty_shared, shared_with, SessionValue, MarkedSession, IsMarked}
use Rattle.coap_server_session.specs.values.Sessions.{TakeOutcome, new_session, taking, shared_changed, session_written}
use Rattle.coap_server_session.specs.values.Sessions.{session_ended, session_released, session_announced, session_given}
use Rattle.coap_server_session.specs.values.Sessions.{session_settled, IsSettled}

-- A server: its configuration, the resources with the time, the last id, and the connections in ascending order of ids.
pub record ServerValue : Type 0 where
  pub config : ConfigValues
  pub shared : ServerState
  pub ids : ℕ
  pub sessions : List (ℕ × SessionValue)

-- ---- connections

-- The connection with this id, if there is one.
unfoldable pub session_of : ℕ → List (ℕ × SessionValue) → Option SessionValue
session_of id [] = None
session_of id (e ∷ es) = if e.0 == id then Some e.1 else session_of id es

-- One entry of the list, changed by `f` if it has this id.
abbrev pub session_becomes : ℕ → (SessionValue → SessionValue) → ℕ × SessionValue → ℕ × SessionValue
session_becomes id f e = if e.0 == id then (e.0, f e.1) else e

-- The list after the connection at an index is changed by `f`.
unfoldable pub changed_at : ℕ → (SessionValue → SessionValue) → List (ℕ × SessionValue) → List (ℕ × SessionValue)
changed_at i f [] = []
changed_at zero f (e ∷ es) = (e.0, f e.1) ∷ es
changed_at (suc i) f (e ∷ es) = e ∷ changed_at i f es

-- Holds if the connection with this id is at the index `i`, and all ids are distinct.
pub record LiesAt (id i : ℕ) (sessions : List (ℕ × SessionValue)) : Type 0 where
  pub distinct : IsDistinct nat_eq (keys_of sessions)
  pub index : position_or_len (nat_eq id) (keys_of sessions) ≡ i
  pub within : i < length sessions
  pub found : session_of id sessions ≡ slice_get (values_of sessions) i

-- The server after the connection with this id is changed by `f`.
abbrev pub on_session : ℕ → (SessionValue → SessionValue) → ServerValue → ServerValue
on_session id f v = record v { sessions = map (session_becomes id f) v.sessions }

-- An entry of the list after its connection settled.
abbrev pub settled_entry : ServerState → ℕ × SessionValue → ℕ × SessionValue
settled_entry shared e = (e.0, session_settled shared e.1)

-- The server after every connection settled.
abbrev pub server_settled : ServerValue → ServerValue
server_settled v = record v { sessions = map (settled_entry v.shared) v.sessions }

-- Holds if every connection is settled.
abbrev pub AreSettled : ServerState → List (ℕ × SessionValue) → Type 0
AreSettled shared sessions = AllByRecursion (λ e. IsSettled shared e.1) sessions

-- ---- the changed marks

-- An entry of the list without the changed marks.
abbrev pub unmarked_entry : ℕ × MarkedSession → ℕ × SessionValue
unmarked_entry e = (e.0, e.1.session)

-- The list without the changed marks.
abbrev pub unmarked : List (ℕ × MarkedSession) → List (ℕ × SessionValue)
unmarked sessions = map unmarked_entry sessions

-- Holds if the changed marks of all observers of all connections are current.
abbrev pub AreAllMarked : ServerState → List (ℕ × MarkedSession) → Type 0
AreAllMarked shared sessions = AllByRecursion (λ e. IsMarked shared e.1) sessions

-- ---- queries

-- `true` if there is such a connection.
abbrev pub is_there : {A : Type 0} → Option A → Bool
is_there None = false
is_there (Some x) = true

-- The split frame that each connection completed last.
abbrev pub splits_of : List (ℕ × MarkedSession) → List (List ℕ)
splits_of sessions = map (λ e. e.1.split) sessions

-- ---- calls

-- The server state (`ServerState`) of a new server, which stores nothing.
abbrev pub new_shared : ConfigValues → ServerState
new_shared c = shared_with (empty_shared c.dynamic_max c.rep_max c.starts.versions c.starts.moment) c.applications

-- The configuration with these applications.
abbrev pub config_with : ConfigValues → Option ApplicationsValue → ConfigValues
config_with c applications = record c { applications = applications }

-- A new server, which has no connection.
abbrev pub new_server : ConfigValues → ServerValue
new_server c = record {
  config = c;
  shared = new_shared c;
  ids = c.starts.ids;
  sessions = [];
}

abbrev pub server_opened : ServerValue → ServerValue
server_opened v = server_settled (record v {
  ids = v.ids + 1;
  sessions = v.sessions ++ (v.ids + 1, new_session v.config.limits) ∷ [];
})

-- The server after a `take` with the effect `t` on the connection with this id.
abbrev pub server_taken_so : ServerValue → ℕ → TakeOutcome → ServerValue
server_taken_so v id t =
    server_settled (record (on_session id (λ s. t.session) v) { shared = shared_changed v.shared t.change })

-- The server after a `take` on a connection, unchanged if there is none.
abbrev pub server_taken_on : ServerValue → ℕ → List ℕ → Option SessionValue → ServerValue
server_taken_on v id piece None = v
server_taken_on v id piece (Some s) = server_taken_so v id (taking v.shared s piece)

-- The server after a `take` of `piece`.
unfoldable pub server_taken : ServerValue → ℕ → List ℕ → ServerValue
server_taken v id piece = server_taken_on v id piece (session_of id v.sessions)

-- The number of bytes that a `take` of `piece` accepts on a connection.
abbrev pub count_on : ServerValue → List ℕ → Option SessionValue → ℕ
count_on v piece None = 0
count_on v piece (Some s) = (taking v.shared s piece).count

-- The same for the connection with this id.
unfoldable pub count_taken : ServerValue → ℕ → List ℕ → ℕ
count_taken v id piece = count_on v piece (session_of id v.sessions)

abbrev pub server_written : ServerValue → ℕ → ℕ → ServerValue
server_written v id n = server_settled (on_session id (λ s. session_written s n) v)

abbrev pub server_ticked : ServerValue → ℕ → ServerValue
server_ticked v now = server_settled (record v { shared = record v.shared { now = now } })

abbrev pub server_put : ServerValue → Path → Option ℕ → List ℕ → ServerValue
server_put v path format bytes =
    server_settled (record v { shared = record v.shared { store = put_in v.shared.store path format bytes } })

abbrev pub server_removed : ServerValue → Path → ServerValue
server_removed v path = server_settled (record v {
  shared =
      record v.shared { store = removed_in v.shared.store path };
})

abbrev pub server_ended : ServerValue → ℕ → ServerValue
server_ended v id = server_settled (on_session id session_ended v)

abbrev pub server_released : ServerValue → ℕ → ServerValue
server_released v id = server_settled (on_session id session_released v)

abbrev pub server_announced : ServerValue → ℕ → ℕ → ServerValue
server_announced v id size = server_settled (on_session id (λ s. session_announced s size) v)

-- A connection after a response of the application, by the message that its bytes encode, if they encode one.
abbrev pub session_given_by : Result Message FormatFault → SessionValue → SessionValue
session_given_by (Ok m) s = session_given s m
session_given_by (Err e) s = s

-- The server after these bytes were given as a response of the application on a connection.
abbrev pub server_given : ServerValue → ℕ → List ℕ → ServerValue
server_given v id bytes = server_settled (on_session id (session_given_by (message_of bytes)) v)

abbrev pub server_responded : ServerValue → ℕ → Message → ServerValue
server_responded v id m = server_settled (on_session id (λ s. session_given s m) v)

abbrev pub server_dropped : ServerValue → ℕ → ServerValue
server_dropped v id = server_settled (record v { sessions = filter (λ e. not (e.0 == id)) v.sessions })
