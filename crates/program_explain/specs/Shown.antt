-- Defined by this project: what a printer has written.
use Rattle.std.specs.Prelude.{◌≡◌, ℕ, Bool, true, false, ◌==◌, ◌||◌, List, [], ◌∷◌, ◌++◌, Option, Some, None, Result}
use Rattle.std.specs.Prelude.{Ok, Err}
use Rattle.std.specs.List.{list_all}
use Rattle.coap_print.specs.Texts.{is_printable}
use Rattle.program_explain.specs.declared.trouble.Trouble.{Trouble}
use Rattle.program_explain.specs.declared.trouble.Trouble.TheVariants.{Read, Write, Memory, NoEvent, TooLong, Torn}
use Rattle.program_explain.specs.declared.trouble.Trouble.TheVariants.{Options}

-- True if a byte is printable ASCII or a newline.
abbrev pub is_shown : ℕ → Bool
is_shown byte = is_printable byte || (byte == 10)

-- All bytes that an outlet has written are printable ASCII or newlines. Holds only of an outlet that records them.
abbrev pub IsShown : Option (List ℕ) → Type 0
IsShown None = ⊥
IsShown (Some text) = list_all is_shown text ≡ true

-- A line, followed by a newline.
abbrev pub ended : List ℕ → List ℕ
ended line = line ++ 10 ∷ []

-- True if a failed write ended an explanation.
abbrev pub fails_write : {T : Type 0} → Result T Trouble → Bool
fails_write (Ok x) = false
fails_write (Err Write) = true
fails_write (Err Read) = false
fails_write (Err Memory) = false
fails_write (Err (NoEvent number)) = false
fails_write (Err (TooLong number)) = false
fails_write (Err (Torn number)) = false
fails_write (Err (Options number)) = false
