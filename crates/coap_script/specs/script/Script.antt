-- Defined by this project: the meaning of a script. It is the events of its lines in order, or the number of the first
-- malformed line.
use Rattle.std.specs.Prelude.{ℕ, Bool, true, ◌+◌, ◌==◌, List, [], ◌∷◌, ◌++◌, length, Option, Some, None, option_map}
use Rattle.std.specs.Prelude.{Result, Ok, Err, nat_lt, if◌then◌else◌}
use Rattle.std.specs.List.{list_all}
use Rattle.coap_text.specs.Words.{parts}
use Rattle.coap_script.specs.script.Words.{newline, words_of}
use Rattle.coap_script.specs.script.Events.{ScriptEventValue, event_of}

-- The event that a line names, if it names one. The line must be ASCII.
unfoldable pub event_in : List ℕ → Option ScriptEventValue
event_in line = if list_all (λ b. nat_lt b 128) line then event_of (words_of line) else None

-- The byte `#`, with which a comment begins.
abbrev pub number_sign : ℕ
number_sign = 35

-- The line names no event because it is empty or a comment.
unfoldable pub says_nothing : List ℕ → Bool
says_nothing [] = true
says_nothing (byte ∷ bytes) = byte == number_sign

-- The events of a line: one or none. `None` if the line is malformed.
unfoldable pub events_in : List ℕ → Option (List ScriptEventValue)
events_in line = if says_nothing line then Some [] else option_map (λ event. event ∷ []) (event_in line)

-- The meaning of a text after this number of lines with these events.
abbrev pub said_after : ℕ → List ScriptEventValue → Result (List ScriptEventValue) ℕ → Result (List ScriptEventValue) ℕ
said_after lines before (Ok events) = Ok (before ++ events)
said_after lines before (Err line) = Err (lines + line)

-- The meaning of a line and of the text after it.
abbrev pub said_by_line : Option (List ScriptEventValue) → Result (List ScriptEventValue) ℕ
    → Result (List ScriptEventValue) ℕ
said_by_line None later = Err 1
said_by_line (Some events) later = said_after 1 events later

-- The meaning of the parts of a text between its newlines. Each part is a line, except for the last. The last part
-- follows the last newline and must be empty.
unfoldable pub said_by_parts : List (List ℕ) → Result (List ScriptEventValue) ℕ
said_by_parts [] = Ok []
said_by_parts (rest ∷ []) = if length rest == 0 then Ok [] else Err 1
said_by_parts (line ∷ next ∷ others) = said_by_line (events_in line) (said_by_parts (next ∷ others))

-- The events of a script, or the number of the first malformed line, from 1.
abbrev pub script_of : List ℕ → Result (List ScriptEventValue) ℕ
script_of text = said_by_parts (parts newline text)

-- The meaning of this number of whole lines and of the text after them.
abbrev pub said_on : ℕ → Result (List ScriptEventValue) ℕ → Result (List ScriptEventValue) ℕ
    → Result (List ScriptEventValue) ℕ
said_on lines (Ok events) later = said_after lines events later
said_on lines (Err line) later = Err line
