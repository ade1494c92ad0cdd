-- Defined by this project: the lines of the messages that end with bytes of a connection.
use Rattle.std.specs.Prelude.{ℕ, zero, suc, ◌+◌, Bool, not, ◌&&◌, ◌==◌, nat_lt, List, [], ◌∷◌, ◌++◌, length, drop}
use Rattle.std.specs.Prelude.{Option, Some, None, if◌then◌else◌}
use Rattle.coap_log.specs.Taps.{TapValue, taken, tap_after}
use Rattle.program_explain.specs.Layout.{message_line, unfinished_line}
use Rattle.program_explain.specs.Printed.{OutputLine, Text, listed}
use Rattle.program_explain.specs.declared.layout.Way.{Way}

-- True if the last byte of the present message of a tap is missing, and at least one byte is not.
abbrev pub is_within : TapValue → Bool
is_within tap = not tap.is_whole && nat_lt 0 tap.passed

-- The line of the message whose last byte is missing, after an event with this number of bytes. There is none after an
-- event without bytes.
abbrev pub rest_line : ℕ → Way → TapValue → ℕ → Option OutputLine
rest_line id way tap count =
    if nat_lt 0 count && is_within tap then Some (Text (Some id) (unfinished_line id way tap.passed)) else None

-- A tap after bytes, and the lines of the messages that end with them.
pub record Passed : Type 0 where
  pub tap : TapValue
  pub lines : List OutputLine

-- The line of the present message of a tap, if it is whole.
abbrev pub whole_line : ℕ → Way → TapValue → Option OutputLine
whole_line id way tap = if tap.is_whole then Some (Text (Some id) (message_line id way tap)) else None

-- Lines before others.
abbrev pub lines_before : List OutputLine → Passed → Passed
lines_before lines others = record { tap = others.tap; lines = lines ++ others.lines }

-- A tap after these bytes, passed to one call after another, and the lines of the messages that end with them. The
-- first argument limits the number of calls: each takes a byte.
unfoldable pub passed : ℕ → ℕ → Way → TapValue → List ℕ → Passed
passed zero id way tap bytes = record { tap = tap; lines = [] }
passed (suc calls) id way tap [] = record { tap = tap; lines = [] }
passed (suc calls) id way tap (b ∷ bytes) =
    if taken tap (b ∷ bytes) == 0 then record { tap = tap_after tap (b ∷ bytes); lines = [] }
    else lines_before (listed (whole_line id way (tap_after tap (b ∷ bytes))))
    (passed calls id way (tap_after tap (b ∷ bytes)) (drop (taken tap (b ∷ bytes)) (b ∷ bytes)))

-- The same for more bytes.
abbrev pub passed_more : ℕ → Way → List ℕ → Passed → Passed
passed_more id way bytes p = lines_before p.lines (passed (length bytes) id way p.tap bytes)

-- The same with the line of the message whose last byte is missing.
abbrev pub with_rest : ℕ → Way → ℕ → Passed → Passed
with_rest id way count p = record { tap = p.tap; lines = p.lines ++ listed (rest_line id way p.tap count) }

-- A tap after the bytes of an event, which pass in two parts, and the lines of the messages.
abbrev pub passed_parts : ℕ → Way → TapValue → List ℕ → List ℕ → Passed
passed_parts id way tap first second =
    with_rest id way (length first + length second)
    (passed_more id way second (passed (length first) id way tap first))
