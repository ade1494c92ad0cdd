-- Defined by this project: the effect of the events of a script on a server, and the lines that they write.
use Rattle.std.specs.Prelude.{ℕ, ◌+◌, List, [], ◌∷◌, ◌++◌, length, take, Option, Some, None, option_map, nat_le, codes}
use Rattle.std.specs.Prelude.{if◌then◌else◌}
use Rattle.coap_conn.specs.Phases.{stop_of}
use Rattle.coap_conn.specs.Reasons.{reason_number}
use Rattle.coap_store.specs.Refusals.{put_refusal, remove_refusal}
use Rattle.coap_store.specs.declared.fault.StoreFault.{StoreFault}
use Rattle.coap_store.specs.declared.fault.StoreFault.TheVariants as storing
use Rattle.coap_script.specs.script.Events.{ScriptEventValue, Open, In, Drain, Tick, Put, Remove, End, Release, Respond}
use Rattle.coap_script.specs.script.Events.{Drop, Status}
use Rattle.coap_script.specs.script.Lines.{open_line, in_line, out_line, tick_line, put_line, remove_line, word_line}
use Rattle.coap_script.specs.script.Lines.{status_line, fault_line}
use Rattle.coap_server_engine.specs.script.RequestLines.{request_lines}
use Rattle.coap_server_engine.specs.values.InResults.{InResult, in_result}
use Rattle.coap_server_session.specs.values.Sessions.{SessionValue}
use Rattle.coap_server_engine.specs.values.Servers.{ServerValue, session_of, server_opened, server_written}
use Rattle.coap_server_engine.specs.values.Servers.{server_ticked, server_put, server_removed, server_ended}
use Rattle.coap_server_engine.specs.values.Servers.{server_released, server_given, server_dropped}
use Rattle.coap_server_engine.specs.values.ServerAnswers.{open_refusal, released_refusal, responded_refusal}
use Rattle.coap_model.specs.declared.answers.OpenFault.{OpenFault}
use Rattle.coap_model.specs.declared.answers.OpenFault.TheVariants as opening
use Rattle.coap_model.specs.declared.answers.ReleaseFault.{ReleaseFault}
use Rattle.coap_model.specs.declared.answers.ReleaseFault.TheVariants as releasing
use Rattle.coap_model.specs.declared.answers.ResponseFault.{ResponseFault}
use Rattle.coap_model.specs.declared.answers.ResponseFault.TheVariants as responding

-- The result of events: the server after them, and the text that they write.
pub record EventResult : Type 0 where
  pub server : ServerValue
  pub text : List ℕ

-- The result with this server and this text.
abbrev pub comes_to : ServerValue → List ℕ → EventResult
comes_to v line = record { server = v; text = line }

-- ---- the numbers of errors

abbrev pub open_number : OpenFault → ℕ
open_number opening.Full = 1
open_number opening.IdsSpent = 2
open_number opening.Memory = 3

abbrev pub store_number : StoreFault → ℕ
store_number storing.NoSuch = 1
store_number storing.TooLarge = 2
store_number storing.Limit = 3
store_number storing.BadPath = 4
store_number storing.VersionsSpent = 5
store_number storing.Memory = 6

abbrev pub release_number : ReleaseFault → ℕ
release_number releasing.NoSuch = 1
release_number releasing.NotOpen = 2
release_number releasing.NoRoom = 3
release_number releasing.PeerTooSmall = 4

abbrev pub response_number : ResponseFault → ℕ
response_number responding.NoSuch = 1
response_number responding.NoSuchRequest = 2
response_number responding.NotAResponse = 3
response_number responding.NoRoom = 4

-- The number of the error of `tick`, if the time is before that of the server.
abbrev pub tick_refusal : ServerValue → ℕ → Option ℕ
tick_refusal v now = if nat_le v.shared.now now then None else Some 1

-- ---- events that fail

-- The result of an event that fails with this number: the server is unchanged.
abbrev pub refused : ServerValue → List ℕ → Option ℕ → ℕ → EventResult
refused v word id number = comes_to v (fault_line word id number)

-- The result of an event, unless it fails with a number.
abbrev pub unless_refused : ServerValue → List ℕ → Option ℕ → EventResult → Option ℕ → EventResult
unless_refused v word id does None = does
unless_refused v word id does (Some number) = refused v word id number

-- The result of an event on a connection. It fails with 1 if there is no connection.
abbrev pub on_connection : ServerValue → List ℕ → ℕ → (SessionValue → EventResult) → Option SessionValue → EventResult
on_connection v word id does None = refused v word (Some id) 1
on_connection v word id does (Some s) = does s

-- ---- `in`

-- The number of the reason for which a connection no longer accepts messages, if there is one.
abbrev pub stop_number : Option SessionValue → Option ℕ
stop_number None = None
stop_number (Some s) = option_map reason_number (stop_of s.link.phase)

-- The result of an `in` after the takes of its bytes. Its line is followed by those of the requests that the takes
-- handed to the application, in order.
abbrev pub in_ran : ℕ → List ℕ → InResult → EventResult
in_ran id requests f =
    comes_to f.server (in_line id f.count (stop_number (session_of id f.server.sessions)) ++ requests)

-- ---- `drain` and `status`

-- The queued bytes that are drained: all, or at most `most`.
abbrev pub drained : Option ℕ → List ℕ → List ℕ
drained None waiting = waiting
drained (Some most) waiting = take most waiting

-- The result of a `drain` of these bytes.
abbrev pub drain_ran : ServerValue → ℕ → List ℕ → EventResult
drain_ran v id bytes = comes_to (server_written v id (length bytes)) (out_line id bytes)

-- The result of a `status`.
abbrev pub status_ran : ServerValue → ℕ → SessionValue → EventResult
status_ran v id s =
    comes_to v
    (status_line id s.link.phase (length s.frame) (length s.link.waiting) (length s.link.pending) (length s.observers))

-- ---- events

-- The result of an event: the server after it, and its line.
unfoldable pub event_ran : ServerValue → ScriptEventValue → EventResult
event_ran v Open =
    unless_refused v (codes "open") None (comes_to (server_opened v) (open_line (v.ids + 1)))
    (option_map open_number (open_refusal v))
event_ran v (In id bytes) =
    on_connection v (codes "in") id (λ s. in_ran id (request_lines v id bytes) (in_result v id bytes))
    (session_of id v.sessions)
event_ran v (Drain id most) =
    on_connection v (codes "drain") id (λ s. drain_ran v id (drained most s.link.waiting)) (session_of id v.sessions)
event_ran v (Tick now) =
    unless_refused v (codes "tick") None (comes_to (server_ticked v now) (tick_line now)) (tick_refusal v now)
event_ran v (Put path format bytes) =
    unless_refused v (codes "put") None
    (comes_to (server_put v path format bytes) (put_line (v.shared.store.versions + 1)))
    (option_map store_number (put_refusal v.shared.store path bytes))
event_ran v (Remove path text) =
    unless_refused v (codes "remove") None (comes_to (server_removed v path) (remove_line text))
    (option_map store_number (remove_refusal v.shared.store path))
event_ran v (End id) =
    on_connection v (codes "end") id (λ s. comes_to (server_ended v id) (word_line (codes "end") id))
    (session_of id v.sessions)
event_ran v (Release id) =
    unless_refused v (codes "release") (Some id) (comes_to (server_released v id) (word_line (codes "release") id))
    (option_map release_number (released_refusal v id))
event_ran v (Respond id bytes) =
    unless_refused v (codes "respond") (Some id) (comes_to (server_given v id bytes) (word_line (codes "respond") id))
    (option_map response_number (responded_refusal v id bytes))
event_ran v (Drop id) =
    on_connection v (codes "drop") id (λ s. comes_to (server_dropped v id) (word_line (codes "drop") id))
    (session_of id v.sessions)
event_ran v (Status id) = on_connection v (codes "status") id (status_ran v id) (session_of id v.sessions)

-- The result `r` with its text after the text `before`.
abbrev pub result_after : List ℕ → EventResult → EventResult
result_after before r = comes_to r.server (before ++ r.text)

-- The server after all events in order, and all their lines.
unfoldable pub replayed : ServerValue → List ScriptEventValue → EventResult
replayed v [] = comes_to v []
replayed v (e ∷ es) = result_after (event_ran v e).text (replayed (event_ran v e).server es)
