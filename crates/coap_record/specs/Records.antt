-- Defined by this project: the text of a record after calls.
use Rattle.std.specs.Prelude.{◌≡◌, Bool, true, false, ℕ, List, ◌++◌, All, Option, Some, None, Ok, nat_le, nat_lt, ◌&&◌}
use Rattle.std.specs.Prelude.{◌⊎◌, [], ◌∷◌}
use Rattle.std.specs.Prelude.{◌==◌, if◌then◌else◌}
use Rattle.coap_script.specs.script.Events.{ScriptEventValue}
use Rattle.coap_script.specs.script.Script.{script_of}
use Rattle.coap_script.specs.script.Words.{newline}
use Rattle.coap_model.specs.world.Events.{AcceptedCall}
use Rattle.coap_record.specs.RecordLines.{lines_of}
use Rattle.coap_record.specs.SaidEvents.{IsRecordable}

-- The text is a header and the lines of these calls. Their values are in the range of their types, and the encodings of
-- responses are read back.
abbrev pub HasLines : (header text : List ℕ) → List AcceptedCall → Type 0
HasLines header text calls = (text ≡ header ++ lines_of calls) × All IsRecordable calls

-- The text is a header and the lines of the first of these calls. So its last line is whole.
pub record HasFirstLines (header text : List ℕ) (calls : List AcceptedCall) : Type 0 where
  pub front : List AcceptedCall
  pub later : List AcceptedCall
  pub all : calls ≡ front ++ later
  pub lines : HasLines header text front

-- The text is a prefix of a header and the lines of the first of these calls, which are as in `HasLines`. The bytes of
-- `missing` come after the text.
pub record HasPart (header text : List ℕ) (calls : List AcceptedCall) : Type 0 where
  pub front : List AcceptedCall
  pub later : List AcceptedCall
  pub all : calls ≡ front ++ later
  pub missing : List ℕ
  pub lines : header ++ lines_of front ≡ text ++ missing
  pub ranges : All IsRecordable front

-- The record with this header has this text after these calls. Holds only of an outlet that records its text.
-- - A record that has not ended has the lines of all calls.
-- - If it has ended at its limit (`is_full`), it has the lines of the first calls.
-- - If a write has failed, it has a prefix of these.
abbrev pub IsRecordOf : List ℕ → (has_failed is_full : Bool) → Option (List ℕ) → List AcceptedCall → Type 0
IsRecordOf header has_failed is_full None calls = ⊥
IsRecordOf header false false (Some text) calls = HasLines header text calls
IsRecordOf header false true (Some text) calls = HasFirstLines header text calls
IsRecordOf header true is_full (Some text) calls = HasPart header text calls

-- The text has whole lines only: it is empty, or ends with a newline.
abbrev pub AreWholeLines : List ℕ → Type 0
AreWholeLines text = (text ≡ []) ⊎ ((front : List ℕ) × (text ≡ front ++ newline ∷ []))

-- The text has comments only: before any script, it leaves the events of the script as they are.
abbrev pub SaysNoEvent : List ℕ → Type 0
SaysNoEvent text =
    (more : List ℕ) (events : List ScriptEventValue) → script_of more ≡ Ok events → script_of (text ++ more) ≡ Ok events

-- `true` for a printable character of ASCII.
abbrev pub is_printable : ℕ → Bool
is_printable b = nat_le 32 b && nat_lt b 127

-- A byte before the whole lines of the text after it.
abbrev pub byte_before : ℕ → List ℕ → List ℕ
byte_before b [] = if b == newline then newline ∷ [] else []
byte_before b (c ∷ lines) = b ∷ c ∷ lines

-- The whole lines of a text: its bytes up to the last newline.
abbrev pub whole_lines_in : List ℕ → List ℕ
whole_lines_in [] = []
whole_lines_in (b ∷ bytes) = byte_before b (whole_lines_in bytes)
