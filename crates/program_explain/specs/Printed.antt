-- Defined by this project: what a printer prints of lines, in order.
use Rattle.std.specs.Prelude.{◌≡◌, ℕ, List, [], ◌∷◌, ◌++◌, Option, Some, None, nat_eq, if◌then◌else◌}
use Rattle.std.specs.Option.{option_eq}
use Rattle.coap_io.specs.Prelude.{AddsBytes}
use Rattle.program_explain.specs.Layout.{IsTimeLine}
use Rattle.program_explain.specs.Shown.{ended}
pub use Rattle.program_explain.specs.declared.printer.OutputLine.{OutputLine}
pub use Rattle.program_explain.specs.declared.printer.OutputLine.TheVariants.{Text, Time}
use Rattle.program_explain.specs.declared.printer.Printer.{Printer}

-- Lines, and the time that was not printed yet.
pub record Filtered : Type 0 where
  pub lines : List OutputLine
  pub time : Option ℕ

-- Lines before others.
abbrev pub lines_then : List OutputLine → Filtered → Filtered
lines_then lines others = record { lines = lines ++ others.lines; time = others.time }

-- A line, if there is one.
abbrev pub listed : Option OutputLine → List OutputLine
listed None = []
listed (Some line) = line ∷ []

-- The line of a time, if there is one.
abbrev pub time_lines : Option ℕ → List OutputLine
time_lines None = []
time_lines (Some seconds) = Time seconds ∷ []

-- The lines about a connection. The last time before such a line comes before it, unless it was printed before.
unfoldable pub of_connection : ℕ → Option ℕ → List OutputLine → Filtered
of_connection id time [] = record { lines = []; time = time }
of_connection id time (Time seconds ∷ lines) = of_connection id (Some seconds) lines
of_connection id time (Text about line ∷ lines) =
    if option_eq nat_eq about (Some id)
    then lines_then (time_lines time ++ Text about line ∷ []) (of_connection id None lines)
    else of_connection id time lines

-- The lines that a printer prints: all, or those about one connection.
abbrev pub filtered : Option ℕ → Option ℕ → List OutputLine → Filtered
filtered None time lines = record { lines = lines; time = time }
filtered (Some id) time lines = of_connection id time lines

-- The bytes of a line. Those of a time are a line with its date.
abbrev pub IsLineText : OutputLine → List ℕ → Type 0
IsLineText (Text about line) text = text ≡ line
IsLineText (Time seconds) text = IsTimeLine seconds text

-- The text of lines, each with its newline.
unfoldable pub AreLineTexts : List OutputLine → List ℕ → Type 0
AreLineTexts [] text = text ≡ []
AreLineTexts (line ∷ lines) text =
    (first others : List ℕ) × IsLineText line first × AreLineTexts lines others × (text ≡ ended first ++ others)

-- A printer has printed these lines. It has written the text of those that are not left out, and keeps the time that
-- was not printed yet. Nothing is claimed of an outlet that does not record its bytes.
pub record PrintsTo (only pending : Option ℕ) (lines : List OutputLine) (x y : Option (List ℕ))
    (later : Option ℕ) : Type 0 where
  pub text : List ℕ
  pub texts : AreLineTexts (filtered only pending lines).lines text
  pub adds : AddsBytes x y text
  pub time : later ≡ (filtered only pending lines).time

-- A printer has printed these lines, and prints the same connections. The function gives the bytes that its outlet has
-- written.
abbrev pub Prints : {O : Type 0} → (O → Option (List ℕ)) → Printer O → Printer O → List OutputLine → Type 0
Prints written before after lines =
    PrintsTo before.only before.time lines (written before.out) (written after.out) after.time
    × (after.only ≡ before.only)
