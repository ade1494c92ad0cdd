-- Defined by this project: the events that the lines of a script name.
use Rattle.std.specs.Prelude.{ℕ, Bool, List, [], ◌∷◌, Option, Some, None, if◌then◌else◌, codes}
use Rattle.coap_path.specs.Paths.{Path, same_bytes}
use Rattle.coap_text.specs.Words.{decimal_value, hex_value}
use Rattle.coap_script.specs.script.Words.{payload_value, format_value, path_value}

-- An event that a line names. `Drain` with `None` writes all queued bytes.
pub data ScriptEventValue : Type 0 where
  Open : ScriptEventValue
  In : (connection : ℕ) (bytes : List ℕ) → ScriptEventValue
  Drain : (connection : ℕ) (most : Option ℕ) → ScriptEventValue
  Tick : (moment : ℕ) → ScriptEventValue
  Put : (path : Path) (format : Option ℕ) (payload : List ℕ) → ScriptEventValue
  Remove : (path : Path) (text : List ℕ) → ScriptEventValue
  End : (connection : ℕ) → ScriptEventValue
  Release : (connection : ℕ) → ScriptEventValue
  Respond : (connection : ℕ) (response : List ℕ) → ScriptEventValue
  Drop : (connection : ℕ) → ScriptEventValue
  Status : (connection : ℕ) → ScriptEventValue

-- The result of f for a value; none if there is no value.
infixl 10 ◌>>=◌
abbrev pub ◌>>=◌ : {A B : Type 0} → Option A → (A → Option B) → Option B
None >>= f = None
Some x >>= f = f x

-- The word is the name of an event.
abbrev pub says : List ℕ → List ℕ → Bool
says word name = same_bytes word name

-- The event of `tick N`, `drain ID`, `end ID`, `release ID`, `drop ID` and `status ID`.
unfoldable pub number_event : List ℕ → ℕ → Option ScriptEventValue
number_event word n =
    if says word (codes "tick") then Some (Tick n)
    else if says word (codes "drain") then Some (Drain n None)
    else if says word (codes "end") then Some (End n)
    else if says word (codes "release") then Some (Release n)
    else if says word (codes "drop") then Some (Drop n)
    else if says word (codes "status") then Some (Status n)
    else None

-- The event of `remove PATH`. The text of the path is kept.
unfoldable pub remove_event : List ℕ → Option ScriptEventValue
remove_event path = do
  segments ← path_value path
  Some (Remove segments path)

-- The event of `in ID HEX`.
unfoldable pub in_event : List ℕ → List ℕ → Option ScriptEventValue
in_event id hex = do
  connection ← decimal_value id
  bytes ← hex_value hex
  Some (In connection bytes)

-- The event of `respond ID HEX`.
unfoldable pub respond_event : List ℕ → List ℕ → Option ScriptEventValue
respond_event id hex = do
  connection ← decimal_value id
  response ← hex_value hex
  Some (Respond connection response)

-- The event of `drain ID N`.
unfoldable pub drain_event : List ℕ → List ℕ → Option ScriptEventValue
drain_event id n = do
  connection ← decimal_value id
  most ← decimal_value n
  Some (Drain connection (Some most))

-- The event of `put PATH FORMAT HEX`.
unfoldable pub put_event : List ℕ → List ℕ → List ℕ → Option ScriptEventValue
put_event path format hex = do
  segments ← path_value path
  number ← format_value format
  payload ← payload_value hex
  Some (Put segments number payload)

-- The event of a word without values.
unfoldable pub event_alone : List ℕ → Option ScriptEventValue
event_alone word = if says word (codes "open") then Some Open else None

-- The event of a word with one value.
unfoldable pub event_with_one : List ℕ → List ℕ → Option ScriptEventValue
event_with_one word value =
    if says word (codes "remove") then remove_event value
    else do
      n ← decimal_value value
      number_event word n

-- The event of a word with two values.
unfoldable pub event_with_two : List ℕ → List ℕ → List ℕ → Option ScriptEventValue
event_with_two word first second =
    if says word (codes "in") then in_event first second
    else if says word (codes "drain") then drain_event first second
    else if says word (codes "respond") then respond_event first second
    else None

-- The event of a word with three values.
abbrev pub event_with_three : List ℕ → List ℕ → List ℕ → List ℕ → Option ScriptEventValue
event_with_three word first second third = if says word (codes "put") then put_event first second third else None

-- The event of a line's words: the name of the event, then at most three values.
unfoldable pub event_of : List (List ℕ) → Option ScriptEventValue
event_of (word ∷ []) = event_alone word
event_of (word ∷ value ∷ []) = event_with_one word value
event_of (word ∷ first ∷ second ∷ []) = event_with_two word first second
event_of (word ∷ first ∷ second ∷ third ∷ []) = event_with_three word first second third
event_of _ = None
