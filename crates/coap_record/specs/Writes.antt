-- Defined by this project: the bytes that an outlet has after a function that writes a text to it.
use Rattle.std.specs.Prelude.{◌≡◌, ℕ, ◌+◌, List, ◌++◌, length, Option, Result, Ok, Err}
use Rattle.coap_conn.specs.QueueValue.{QueueValue, free_of}
use Rattle.coap_io.specs.streams.Device.{AddsBytes, WritesPart}

-- All bytes of a text were written, or only a prefix of them if a write failed.
abbrev pub WritesText : {T E : Type 0} → Option (List ℕ) → Option (List ℕ) → List ℕ → Result T E → Type 0
WritesText old new text (Ok x) = AddsBytes old new text
WritesText old new text (Err e) = WritesPart old new text

-- A prefix of a text was written between the records x and y, and `left` is the rest of the text.
pub record WritesUpTo (text left : List ℕ) (x y : Option (List ℕ)) : Type 0 where
  pub front : List ℕ
  pub all : text ≡ front ++ left
  pub written : AddsBytes x y front

-- The number of bytes for which a queue has memory.
abbrev pub room_in : QueueValue → ℕ
room_in q = free_of q + length q.waiting
