-- Defined by this project: the lines of an explanation.
use Rattle.std.specs.Prelude.{◌≡◌, ℕ, ◌*◌, Bool, true, false, List, [], ◌++◌, nat_le, nat_lt, Option, Some, None}
use Rattle.std.specs.Prelude.{codes, decimal, if◌then◌else◌}
use Rattle.coap_conn.specs.declared.reason.Reason.{Reason}
use Rattle.coap_print.specs.Texts.{escaped_text}
use Rattle.coap_print.specs.Lines.{appended}
use Rattle.coap_print.specs.Descriptions.{representation_text}
use Rattle.coap_print.specs.declared.line.TheConstants.{LINE_LENGTH}
use Rattle.coap_log.specs.Taps.{TapValue}
use Rattle.coap_log.specs.Times.{IsTimeText}
use Rattle.coap_log.specs.Connections.{counts_text, tap_text}
use Rattle.program_server_common.specs.Reasons.{reason_text}
use Rattle.program_explain.specs.declared.layout.Way.{Way}
use Rattle.program_explain.specs.declared.layout.Way.TheVariants.{In, Out}

-- The line with this text.
abbrev pub line_of : List ℕ → List ℕ
line_of text = appended LINE_LENGTH [] text

-- ---- columns

-- The blanks before the number of a connection. The number ends in the sixth column, if it has at most six digits.
unfoldable pub padding : ℕ → List ℕ
padding id =
    if nat_lt id 10 then codes "     "
    else if nat_lt id 100 then codes "    "
    else if nat_lt id 1_000 then codes "   "
    else if nat_lt id 10_000 then codes "  "
    else if nat_lt id 100_000 then codes " "
    else []

-- The number of a connection in its column.
abbrev pub id_text : ℕ → List ℕ
id_text id = padding id ++ decimal id ++ codes "  "

-- The column of a line without a connection.
abbrev pub blanks : List ℕ
blanks = codes "        "

-- The column of a line with a connection or without one.
abbrev pub column : Option ℕ → List ℕ
column None = blanks
column (Some id) = id_text id

-- The direction of a message: an arrow to the left for one that the server receives.
abbrev pub arrow : Way → List ℕ
arrow In = codes "<-  "
arrow Out = codes "->  "

-- The number of a connection and the direction of a message.
abbrev pub way_text : ℕ → Way → List ℕ
way_text id way = id_text id ++ arrow way

-- ---- lines about connections

-- Words about a connection.
abbrev pub connection_line : ℕ → List ℕ → List ℕ
connection_line id words = line_of (id_text id ++ words)

-- The present message of a tap.
abbrev pub message_line : ℕ → Way → TapValue → List ℕ
message_line id way tap = line_of (way_text id way ++ tap_text tap)

-- A message of which only these bytes have passed.
abbrev pub unfinished_line : ℕ → Way → ℕ → List ℕ
unfinished_line id way bytes = line_of (way_text id way ++ codes "unfinished message, bytes so far: " ++ decimal bytes)

-- A number of bytes was accepted, and more arrived.
abbrev pub accepted_line : ℕ → ℕ → ℕ → List ℕ
accepted_line id count all =
    line_of (way_text id In ++ codes "bytes accepted: " ++ decimal count ++ codes " of " ++ decimal all)

-- A number of bytes was queued, and more were to be written.
abbrev pub queued_line : ℕ → ℕ → ℕ → List ℕ
queued_line id count most =
    line_of (way_text id Out ++ codes "bytes queued: " ++ decimal count ++ codes " of " ++ decimal most)

-- A connection stopped for this reason.
abbrev pub stopped_line : ℕ → Reason → List ℕ
stopped_line id reason = line_of (id_text id ++ codes "stopped: " ++ escaped_text (reason_text reason))

-- A connection was dropped after these messages.
abbrev pub dropped_line : ℕ → TapValue → TapValue → List ℕ
dropped_line id incoming outgoing = line_of (id_text id ++ codes "dropped: " ++ counts_text incoming outgoing)

-- The line that the server writes for an event.
abbrev pub output_line : Option ℕ → List ℕ → List ℕ
output_line id text = line_of (column id ++ escaped_text text)

-- ---- other lines

-- A representation was stored at this path.
abbrev pub stored_line : List ℕ → Option ℕ → List ℕ → List ℕ
stored_line path format bytes = line_of (codes "        put " ++ escaped_text path ++ representation_text format bytes)

-- The resource at this path was removed.
abbrev pub removed_line : List ℕ → List ℕ
removed_line path = line_of (codes "        removed " ++ escaped_text path)

-- A line of the record itself.
abbrev pub comment_line : List ℕ → List ℕ
comment_line text = line_of (escaped_text text)

-- ---- the time

-- The last second of the year 9999, after the start of 1970.
abbrev pub last_second : ℕ
last_second = 253_402_300_799

-- The line of a second, with its date and time of day in parentheses, as in (2026-11-23T19:07:33Z), or without them.
abbrev pub IsSecondLine : Bool → ℕ → List ℕ → Type 0
IsSecondLine true seconds line =
    (date : List ℕ) × IsTimeText 0 (seconds * 1_000_000_000) date
    × (line ≡ line_of (codes "        time " ++ decimal seconds ++ codes " (" ++ date ++ codes ")"))
IsSecondLine false seconds line = line ≡ line_of (codes "        time " ++ decimal seconds)

-- The line of a time of the server, in seconds. It has a date if its year has at most four digits.
abbrev pub IsTimeLine : ℕ → List ℕ → Type 0
IsTimeLine seconds line = IsSecondLine (nat_le seconds last_second) seconds line
