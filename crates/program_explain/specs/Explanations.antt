-- Defined by this project: the lines that are printed for an event. The server and the messages are those before it.
use Rattle.std.specs.Prelude.{◌≡◌, ℕ, ◌+◌, ◌-◌, ◌==◌, Bool, true, false, cond, List, [], ◌∷◌, ◌++◌, length, take, drop}
use Rattle.std.specs.Prelude.{Option, Some, None, option_map, get_or, nat_eq, nat_lt, codes, if◌then◌else◌}
use Rattle.indexmap.specs.IndexMap.{IndexMap, get}
use Rattle.coap_conn.specs.Phases.{stop_of}
use Rattle.coap_conn.specs.declared.reason.Reason.{Reason}
use Rattle.coap_log.specs.Taps.{TapValue, new_tap}
use Rattle.coap_log.specs.declared.tap.TheConstants.{DESCRIBED}
use Rattle.coap_path.specs.Paths.{Path}
use Rattle.coap_script.specs.script.Events.{ScriptEventValue, Open, In, Drain, Tick, Put, Remove, End, Release, Respond}
use Rattle.coap_script.specs.script.Events.{Drop, Status}
use Rattle.coap_script.specs.script.Lines.{fault_line, status_line}
use Rattle.coap_script.specs.script.Words.{words_of}
use Rattle.coap_server_session.specs.values.Sessions.{SessionValue}
use Rattle.coap_server_engine.specs.script.Replay as replay
use Rattle.coap_server_engine.specs.values.InResults.{InResult, in_result}
use Rattle.coap_server_engine.specs.values.ServerAnswers.{open_refusal, released_refusal, responded_refusal}
use Rattle.coap_server_engine.specs.values.Servers.{ServerValue, session_of}
use Rattle.coap_store.specs.Refusals.{put_refusal, remove_refusal}
use Rattle.program_explain.specs.Layout as line
use Rattle.program_explain.specs.Messages.{Passed, passed_parts, is_within}
use Rattle.program_explain.specs.Printed.{OutputLine, Text, Time, Prints, listed}
use Rattle.program_explain.specs.declared.explainer.Explainer.{Explainer}
use Rattle.program_explain.specs.declared.layout.Way.{Way}
use Rattle.program_explain.specs.declared.layout.Way.TheVariants as way
use Rattle.program_explain.specs.declared.messages.Followed.{Followed}

-- The messages of the connections, by their numbers.
abbrev pub Messages : Type 0
Messages = ℕ → Option Followed

-- The messages in the map of an explainer.
abbrev pub messages_in : {S : Type 0} → IndexMap ℕ Followed S → Messages
messages_in connections = get nat_eq connections

-- The messages of an explainer.
abbrev pub messages_of : {O : Type 0} → Explainer O → Messages
messages_of explainer = messages_in explainer.connections

-- The messages after those of a connection have changed, or are followed no longer.
abbrev pub with_messages : Messages → ℕ → Option Followed → Messages
with_messages messages id after = λ other. cond (nat_eq id other) after (messages other)

-- The explanation of an event: its lines, and the messages after it.
pub record Explanation : Type 0 where
  pub lines : List OutputLine
  pub messages : Messages

-- An explanation that passes no message.
abbrev pub says : Messages → OutputLine → Explanation
says messages shown = record { lines = shown ∷ []; messages = messages }

-- An explanation, followed by a line if there is one.
abbrev pub and_line : Explanation → Option OutputLine → Explanation
and_line e shown = record { lines = e.lines ++ listed shown; messages = e.messages }

-- ---- lines

-- Words about a connection.
abbrev pub words_line : ℕ → List ℕ → OutputLine
words_line id words = Text (Some id) (line.connection_line id words)

-- The line that the server writes for an event, without its newline.
abbrev pub server_line : Option ℕ → List ℕ → OutputLine
server_line id text = Text id (line.output_line id (take (length text - 1) text))

-- The line of an event that fails with a number.
abbrev pub refusal_line : List ℕ → Option ℕ → ℕ → OutputLine
refusal_line word id number = server_line id (fault_line word id number)

-- The line of an event, unless it fails with a number.
abbrev pub unless_refused : List ℕ → Option ℕ → OutputLine → Option ℕ → OutputLine
unless_refused word id done None = done
unless_refused word id done (Some number) = refusal_line word id number

-- ---- `tick`, and the resources

-- The line of a `tick`.
abbrev pub ticked : ServerValue → ℕ → OutputLine
ticked v now = unless_refused (codes "tick") None (Time now) (replay.tick_refusal v now)

-- The line of a `put`, with its path as it is in the script.
abbrev pub stored : ServerValue → Path → List ℕ → Option ℕ → List ℕ → OutputLine
stored v path text format bytes =
    unless_refused (codes "put") None (Text None (line.stored_line text format bytes))
    (option_map replay.store_number (put_refusal v.shared.store path bytes))

-- The line of a `remove`, with its path as it is in the script.
abbrev pub removed : ServerValue → Path → List ℕ → OutputLine
removed v path text =
    unless_refused (codes "remove") None (Text None (line.removed_line text))
    (option_map replay.store_number (remove_refusal v.shared.store path))

-- ---- events of one connection that pass no bytes

-- The messages of a connection before its first one.
abbrev pub no_messages : Followed
no_messages = record { incoming = new_tap DESCRIBED; outgoing = new_tap DESCRIBED }

-- The explanation of an `open`, unless it fails with a number.
abbrev pub opened_unless : ServerValue → Messages → Option ℕ → Explanation
opened_unless v messages None = record {
  lines = words_line (v.ids + 1) (codes "opened") ∷ [];
  messages = with_messages messages (v.ids + 1) (Some no_messages);
}
opened_unless v messages (Some number) = says messages (refusal_line (codes "open") None number)

-- The explanation of an `open`.
abbrev pub opened : ServerValue → Messages → Explanation
opened v messages = opened_unless v messages (option_map replay.open_number (open_refusal v))

-- True if the last byte of a message of the client is missing.
abbrev pub is_cut : Option Followed → Bool
is_cut None = false
is_cut (Some followed) = is_within followed.incoming

-- The words about the end of the input.
abbrev pub end_words : Bool → List ℕ
end_words cut = if cut then codes "input ended within a message" else codes "input ended"

-- The line of an `end`.
abbrev pub input_ended : Messages → ℕ → Option SessionValue → OutputLine
input_ended messages id None = refusal_line (codes "end") (Some id) 1
input_ended messages id (Some s) = words_line id (end_words (is_cut (messages id)))

-- The line of a `release`.
abbrev pub released : ServerValue → ℕ → OutputLine
released v id =
    unless_refused (codes "release") (Some id) (words_line id (codes "released"))
    (option_map replay.release_number (released_refusal v id))

-- The line of a `respond`.
abbrev pub responded : ServerValue → ℕ → List ℕ → OutputLine
responded v id bytes =
    unless_refused (codes "respond") (Some id) (words_line id (codes "response of the application"))
    (option_map replay.response_number (responded_refusal v id bytes))

-- The counts of a connection that is dropped.
abbrev pub counts_of : ℕ → Option Followed → Option OutputLine
counts_of id None = None
counts_of id (Some followed) = Some (Text (Some id) (line.dropped_line id followed.incoming followed.outgoing))

-- The explanation of a `drop`.
abbrev pub dropped : Messages → ℕ → Option SessionValue → Explanation
dropped messages id None = says messages (refusal_line (codes "drop") (Some id) 1)
dropped messages id (Some s) =
    record { lines = listed (counts_of id (messages id)); messages = with_messages messages id None }

-- The line of a `status`.
abbrev pub status_shown : ℕ → Option SessionValue → OutputLine
status_shown id None = refusal_line (codes "status") (Some id) 1
status_shown id (Some s) =
    server_line (Some id)
    (status_line id s.link.phase (length s.frame) (length s.link.waiting) (length s.link.pending) (length s.observers))

-- ---- messages

-- The tap of a direction.
abbrev pub tap_of : Way → Followed → TapValue
tap_of way.In followed = followed.incoming
tap_of way.Out followed = followed.outgoing

-- The messages of a connection with another tap of a direction.
abbrev pub with_tap : Way → Followed → TapValue → Followed
with_tap way.In followed tap = record followed { incoming = tap }
with_tap way.Out followed tap = record followed { outgoing = tap }

-- The explanation of bytes of a connection, by the tap after them and its lines.
abbrev pub with_passed : Messages → ℕ → Way → Followed → Passed → Explanation
with_passed messages id way followed p =
    record { lines = p.lines; messages = with_messages messages id (Some (with_tap way followed p.tap)) }

-- The explanation of bytes of a connection, which pass in two parts.
abbrev pub passing : Messages → ℕ → Way → List ℕ → List ℕ → Option Followed → Explanation
passing messages id way first second None = record { lines = []; messages = messages }
passing messages id way first second (Some followed) =
    with_passed messages id way followed (passed_parts id way (tap_of way followed) first second)

-- ---- `in`

-- The line about bytes that were not accepted.
abbrev pub rejected_line : ℕ → ℕ → ℕ → Option OutputLine
rejected_line id count all = if nat_lt count all then Some (Text (Some id) (line.accepted_line id count all)) else None

-- The reason for which a connection accepts no message, if there is one.
abbrev pub stop_in : Option SessionValue → Option Reason
stop_in None = None
stop_in (Some s) = stop_of s.link.phase

-- The line of a connection that has stopped with an event.
abbrev pub stop_line : ℕ → Option Reason → Option Reason → Option OutputLine
stop_line id (Some before) after = None
stop_line id None None = None
stop_line id None (Some reason) = Some (Text (Some id) (line.stopped_line id reason))

-- The explanation of the bytes of an `in`, by the result of the calls that accept them.
abbrev pub received_by : Messages → ℕ → List ℕ → InResult → SessionValue → Explanation
received_by messages id bytes result s =
    and_line
    (and_line (passing messages id way.In (take result.count bytes) [] (messages id))
    (rejected_line id result.count (length bytes)))
    (stop_line id (stop_of s.link.phase) (stop_in (session_of id result.server.sessions)))

-- The explanation of an `in`.
abbrev pub received : Messages → ℕ → List ℕ → InResult → Option SessionValue → Explanation
received messages id bytes result None = says messages (refusal_line (codes "in") (Some id) 1)
received messages id bytes result (Some s) = received_by messages id bytes result s

-- ---- `drain`

-- The line of a `drain` of no byte.
abbrev pub no_byte_line : ℕ → ℕ → Option OutputLine
no_byte_line id count = if count == 0 then Some (words_line id (codes "->  no bytes")) else None

-- The line of a `drain` that wrote fewer bytes than it names, or none.
abbrev pub queued_line : ℕ → ℕ → Option ℕ → Option OutputLine
queued_line id count None = no_byte_line id count
queued_line id count (Some most) =
    if nat_lt count most then Some (Text (Some id) (line.queued_line id count most)) else no_byte_line id count

-- The explanation of a `drain` of these bytes. The queue holds them in two parts, of which the first has `cut` bytes.
abbrev pub drained_so : ℕ → Messages → ℕ → Option ℕ → List ℕ → Explanation
drained_so cut messages id most bytes =
    and_line (passing messages id way.Out (take cut bytes) (drop cut bytes) (messages id))
    (queued_line id (length bytes) most)

-- The explanation of a `drain`.
abbrev pub drained : ℕ → Messages → ℕ → Option ℕ → Option SessionValue → Explanation
drained cut messages id most None = says messages (refusal_line (codes "drain") (Some id) 1)
drained cut messages id most (Some s) = drained_so cut messages id most (replay.drained most s.link.waiting)

-- ---- all events

-- The explanation of the event in a line of the script. `cut` counts for a `drain`.
unfoldable pub explained : ℕ → ServerValue → Messages → List ℕ → ScriptEventValue → Explanation
explained cut v messages script Open = opened v messages
explained cut v messages script (In id bytes) =
    received messages id bytes (in_result v id bytes) (session_of id v.sessions)
explained cut v messages script (Drain id most) = drained cut messages id most (session_of id v.sessions)
explained cut v messages script (Tick now) = says messages (ticked v now)
explained cut v messages script (Put path format bytes) =
    says messages (stored v path (get_or (words_of script) 1 []) format bytes)
explained cut v messages script (Remove path text) = says messages (removed v path text)
explained cut v messages script (End id) = says messages (input_ended messages id (session_of id v.sessions))
explained cut v messages script (Release id) = says messages (released v id)
explained cut v messages script (Respond id bytes) = says messages (responded v id bytes)
explained cut v messages script (Drop id) = dropped messages id (session_of id v.sessions)
explained cut v messages script (Status id) = says messages (status_shown id (session_of id v.sessions))

-- True if an event passes bytes of a connection.
abbrev pub passes_bytes : ScriptEventValue → Bool
passes_bytes Open = false
passes_bytes (In id bytes) = true
passes_bytes (Drain id most) = true
passes_bytes (Tick now) = false
passes_bytes (Put path format bytes) = false
passes_bytes (Remove path text) = false
passes_bytes (End id) = false
passes_bytes (Release id) = false
passes_bytes (Respond id bytes) = false
passes_bytes (Drop id) = false
passes_bytes (Status id) = false

-- The lines of the events in a line of the script, one after the other, and the messages after them. Each server is the
-- one that the event before it left.
unfoldable pub AreExplained :
    ServerValue → Messages → List ℕ → List ScriptEventValue → List OutputLine → Messages → Type 0
AreExplained v messages script [] lines last = (lines ≡ []) × (last ≡ messages)
AreExplained v messages script (event ∷ events) lines last =
    (cut : ℕ) × (others : List OutputLine) × (lines ≡ (explained cut v messages script event).lines ++ others)
    × AreExplained (replay.event_ran v event).server (explained cut v messages script event).messages script events
    others last

-- ---- the start

-- The first line of an explanation: the time at which the server starts, unless it is 0.
abbrev pub first_lines : ℕ → List OutputLine
first_lines moment = if nat_lt 0 moment then Time moment ∷ [] else []

-- ---- explainers

module _ {O : Type 0} (written : O → Option (List ℕ)) where
  -- An explainer has printed the lines of an explanation, and has the messages after it. The function gives the bytes
  -- that its outlet has written.
  pub record Explains (before after : Explainer O) (e : Explanation) : Type 0 where
    pub prints : Prints written before.printer after.printer e.lines
    pub messages : messages_of after ≡ e.messages

  -- An explainer has printed the lines of the event in a line of the script.
  abbrev pub ExplainsEvent : Explainer O → Explainer O → List ℕ → ScriptEventValue → Type 0
  ExplainsEvent before after script event =
      (cut : ℕ) × Explains before after (explained cut before.server (messages_of before) script event)

  -- An explainer has printed the lines of the events in a line of the script, after these lines.
  abbrev pub ExplainsEvents :
      Explainer O → Explainer O → List ℕ → List ScriptEventValue → List OutputLine → Type 0
  ExplainsEvents before after script events first =
      (lines : List OutputLine)
      × AreExplained before.server (messages_of before) script events lines (messages_of after)
      × Prints written before.printer after.printer (first ++ lines)
