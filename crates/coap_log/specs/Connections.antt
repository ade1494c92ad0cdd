-- Defined by this project: the lines of a connection.
use Rattle.std.specs.Prelude.{◌≡◌, ℕ, zero, suc, Bool, true, false, List, [], ◌∷◌, ◌++◌, length, take, drop, ◌==◌}
use Rattle.std.specs.Prelude.{codes, decimal, if◌then◌else◌}
use Rattle.coap_io.specs.declared.wire.Got.{Got}
use Rattle.coap_io.specs.declared.wire.Got.TheVariants.{Bytes, Later, End, Failed}
use Rattle.coap_print.specs.Lines.{appended}
use Rattle.coap_print.specs.declared.line.TheConstants.{LINE_LENGTH}
use Rattle.coap_print.specs.declared.level.LogLevel.{LogLevel}
use Rattle.coap_print.specs.declared.level.LogLevel.TheVariants.{Warnings, Connections, Messages}
use Rattle.coap_log.specs.Glimpses.{head_text}
use Rattle.coap_log.specs.Logs.{LogTrace, LogsLine, LogsEnd}
use Rattle.coap_log.specs.Taps.{TapValue, taken, tap_after}

-- The end of the plural, unless there is one thing.
abbrev pub plural : ℕ → List ℕ
plural count = if count == 1 then [] else codes "s"

-- A number of things, as in 1 message or 12 messages.
abbrev pub count_text : ℕ → List ℕ → List ℕ
count_text count thing = decimal count ++ codes " " ++ thing ++ plural count

-- The numbers of messages and bytes in one direction, as in 12 messages, 345 bytes.
abbrev pub passed_text : TapValue → List ℕ
passed_text tap = count_text tap.messages (codes "message") ++ codes ", " ++ count_text tap.bytes (codes "byte")

-- The numbers in both directions, as in 12 messages, 345 bytes in; 1 message, 45 bytes out.
abbrev pub counts_text : TapValue → TapValue → List ℕ
counts_text incoming outgoing = passed_text incoming ++ codes " in; " ++ passed_text outgoing ++ codes " out"

-- The first words of the lines of a connection.
abbrev pub number_text : ℕ → List ℕ
number_text number = codes "connection " ++ decimal number

-- A line of a connection: its first words, followed by a text.
abbrev pub connection_line : ℕ → List ℕ → List ℕ
connection_line number text = appended LINE_LENGTH [] (number_text number ++ text)

-- The last line of a connection, as in connection 1 ended: last response; 12 messages, 345 bytes in; 1
-- message, 45 bytes out.
abbrev pub end_line : ℕ → List ℕ → TapValue → TapValue → List ℕ
end_line number reason incoming outgoing =
    connection_line number (codes " ended: " ++ reason ++ codes "; " ++ counts_text incoming outgoing)

-- A text is logged as a line of a level, at some time.
abbrev pub LogsAtATime : LogLevel → List ℕ → LogTrace → LogTrace → Type 0
LogsAtATime level text before after = (nanos : ℕ) × LogsLine level nanos text before after

-- The end of a log begins at some time, and a text is its last line.
abbrev pub LogsLast : List ℕ → LogTrace → LogTrace → Type 0
LogsLast text before after =
    (nanos : ℕ) × (middle : LogTrace) × LogsEnd nanos before middle × LogsLine Connections nanos text middle after

-- ---- messages

-- The text of the present message of a tap.
abbrev pub tap_text : TapValue → List ℕ
tap_text tap = head_text (take 2048 tap.kept) tap.passed

-- The line of the present message of a tap, after other text.
abbrev pub message_line : List ℕ → TapValue → List ℕ
message_line front tap = appended LINE_LENGTH [] (front ++ tap_text tap)

-- The present message of a tap is logged, if it is whole. `levels` is the level of a message, by its first bytes.
abbrev pub LogsWhole : (List ℕ → LogLevel) → ℕ → List ℕ → TapValue → LogTrace → LogTrace → Bool → Type 0
LogsWhole levels nanos front tap before after true =
    LogsLine (levels tap.kept) nanos (message_line front tap) before after
LogsWhole levels nanos front tap before after false = after ≡ before

-- The effect of one call of a tap on these bytes, which takes no byte if the last argument is true. Otherwise a whole
-- message is logged, and `go` gives the effect of the other bytes.
abbrev pub LogsTaken : (List ℕ → TapValue → LogTrace → Type 0) → (List ℕ → LogLevel) → ℕ → List ℕ → List ℕ
    → TapValue → TapValue → LogTrace → LogTrace → Bool → Type 0
LogsTaken go levels nanos front bytes tap end before after true = (end ≡ tap_after tap bytes) × (after ≡ before)
LogsTaken go levels nanos front bytes tap end before after false =
    (middle : LogTrace)
    × LogsWhole levels nanos front (tap_after tap bytes) before middle (tap_after tap bytes).is_whole
    × go (drop (taken tap bytes) bytes) (tap_after tap bytes) middle

-- Bytes are passed to a tap, and each message that ends with them is logged. This changes the tap from `tap` to `end`,
-- and the log from `before` to `after`. The first argument limits the recursion: each turn takes a byte.
unfoldable pub LogsBytes : ℕ → (List ℕ → LogLevel) → ℕ → List ℕ → List ℕ → TapValue → TapValue → LogTrace
    → LogTrace → Type 0
LogsBytes zero levels nanos front bytes tap end before after = (end ≡ tap) × (after ≡ before)
LogsBytes (suc turns) levels nanos front [] tap end before after = (end ≡ tap) × (after ≡ before)
LogsBytes (suc turns) levels nanos front (b ∷ bytes) tap end before after =
    LogsTaken (λ rest now middle. LogsBytes turns levels nanos front rest now end middle after) levels nanos front
    (b ∷ bytes) tap end before after
    (taken tap (b ∷ bytes) == 0)

-- Bytes are passed to a tap, and each message that ends with them is logged, at some time.
abbrev pub LogsPassed : (List ℕ → LogLevel) → List ℕ → List ℕ → TapValue → TapValue → LogTrace → LogTrace → Type 0
LogsPassed levels front bytes tap end before after =
    (nanos : ℕ) × LogsBytes (length bytes) levels nanos front bytes tap end before after

-- The result of a read or a write on a connection is logged. A failure is a warning. Otherwise each message is logged
-- that ends with the bytes passed on, as a line of the level Messages. The direction is the text between the number of
-- the connection and the message.
abbrev pub LogsResult : ℕ → List ℕ → Got → List ℕ → TapValue → TapValue → LogTrace → LogTrace → Type 0
LogsResult number direction (Bytes n) bytes tap end before after =
    LogsPassed (λ head. Messages) (connection_line number direction) (take n bytes) tap end before after
LogsResult number direction Later bytes tap end before after = (end ≡ tap) × (after ≡ before)
LogsResult number direction End bytes tap end before after = (end ≡ tap) × (after ≡ before)
LogsResult number direction Failed bytes tap end before after =
    (end ≡ tap) × LogsAtATime Warnings (connection_line number (codes " failed")) before after
