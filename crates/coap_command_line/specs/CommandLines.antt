-- Defined by this project: the parts of a command line that both programs share. The crate `clap` finds the options and
-- their texts, and this file defines the values of the texts.
use Rattle.std.specs.Prelude.{◌∷◌, [], ℕ, Bool, true, false, List, drop, map, ◌++◌, Option, Some, None, Result, Ok, Err}
use Rattle.std.specs.Prelude.{slice_get, codes, bytes_eq, ◌==◌, if◌then◌else◌}
use Rattle.std.specs.Borrow.{Bor}
use Rattle.std.specs.Option.{option_map_or}
use Rattle.clap.specs.Simple.{new_shape}
use Rattle.clap.specs.Words.{App, Kinds, Row, Rule, Text, first_of, new_rule}
use Rattle.clap.specs.declared.builder.action.ArgAction.TheVariants.{Append, SetTrue}
use Rattle.coap_conn.specs.Limits.{is_within}
use Rattle.coap_text.specs.Words.{decimal_value, parts}
use Rattle.coap_print.specs.Levels.{level_of}
use Rattle.coap_print.specs.declared.level.LogLevel.{LogLevel}
use Rattle.coap_client_request.specs.declared.target.TargetFault.{TargetFault}
use Rattle.coap_command_line.specs.declared.arguments.tables.Form.{Form}
use Rattle.coap_command_line.specs.declared.arguments.tables.Form.TheVariants as form
use Rattle.coap_command_line.specs.declared.arguments.option_values.BadValue.{BadValue}

-- ---- refusals

-- The error of a command line. For `Usage`, `clap` rejects the arguments with one of these kinds. For `Target`, the URI
-- is no target. For `Value`, the text of the option with this name is invalid. For `Clash`, two options exclude each
-- other.
pub data WordsFaultValue : Type 0 where
  Usage : (kinds : Kinds) → WordsFaultValue
  Target : (fault : TargetFault) → WordsFaultValue
  Value : (name : Text) → WordsFaultValue
  Clash : WordsFaultValue

-- The result `answer`, unless `clap` rejects the arguments.
abbrev pub unless_refused : {A : Type 0} → Kinds → Result A WordsFaultValue → Result A WordsFaultValue
unless_refused [] answer = answer
unless_refused (kind ∷ kinds) answer = Err (Usage (kind ∷ kinds))

-- ---- options, by their names as written in a command line, with hyphens

-- A command with a version and no options of its own. Its arguments do not include the program's name.
abbrev pub bare_app : Text → App
bare_app name = record { top = record (new_shape name) { has_version = true; no_binary_name = true }; subs = [] }

-- A short option with a value.
abbrev pub letter_option : Text → Rule
letter_option name = record (new_rule name) { short = slice_get name 1; value_names = 1 }

-- A long option with a value.
abbrev pub word_option : Text → Rule
word_option name = record (new_rule name) { long = Some (drop 2 name); value_names = 1 }

-- A long option with a value that may be given several times.
abbrev pub repeated_option : Text → Rule
repeated_option name = record (new_rule name) { long = Some (drop 2 name); value_names = 1; action = Some Append }

-- A short option without a value.
abbrev pub letter_flag : Text → Rule
letter_flag name = record (new_rule name) { short = slice_get name 1; action = Some SetTrue }

-- A long option without a value.
abbrev pub word_flag : Text → Rule
word_flag name = record (new_rule name) { long = Some (drop 2 name); action = Some SetTrue }

-- ---- tables of the code

-- An argument with a form.
abbrev pub with_form : Rule → Form → Rule
with_form rule (form.Letter letter value) = record rule { short = Some letter; value_names = 1 }
with_form rule (form.LetterFlag letter) = record rule { short = Some letter; action = Some SetTrue }
with_form rule (form.Word word value) = record rule { long = Some word.now; value_names = 1 }
with_form rule (form.RepeatedWord word value) =
    record rule { long = Some word.now; value_names = 1; action = Some Append }
with_form rule (form.WordFlag word) = record rule { long = Some word.now; action = Some SetTrue }
with_form rule form.Required = record rule { required = true }

-- The argument of a row.
abbrev pub row_rule : Bor Text × Form × Bor Text → Rule
row_rule row = with_form (new_rule row.0.now) row.1

-- A command with more arguments.
abbrev pub with_rules : App → List Rule → App
with_rules app rules = record app { top = record app.top { rules = app.top.rules ++ rules } }

-- The command of a program with a name and a table.
abbrev pub program_app : Text → List (Bor Text × Form × Bor Text) → App
program_app name rows = with_rules (bare_app name) (map row_rule rows)

-- ---- flags

-- True if an option without a value is given, for which `clap` keeps the text `true`.
unfoldable pub is_used : Text → List Row → Bool
is_used name rows = option_map_or (λ text. bytes_eq text (codes "true")) (first_of name rows) false

-- ---- values of options

-- The value of the text of an option, or the value `unused` if the option is not given.
abbrev pub meaning : {A : Type 0} → (Text → Option A) → A → Option Text → Option A
meaning read unused None = Some unused
meaning read unused (Some text) = read text

-- The value, or the name of the option if there is no value.
abbrev pub value_or_name : {A : Type 0} → Text → Option A → Result A Text
value_or_name name None = Err name
value_or_name name (Some value) = Ok value

-- The value of an option, or its name if its text is invalid.
abbrev pub option_value : {A : Type 0} → Text → (Text → Option A) → A → List Row → Result A Text
option_value name read unused rows = value_or_name name (meaning read unused (first_of name rows))

-- The next result, or the error of the first one.
infixl 10 ◌>>=◌
abbrev pub ◌>>=◌ : {A B E : Type 0} → Result A E → (A → Result B E) → Result B E
Ok value >>= next = next value
Err name >>= next = Err name

-- ---- parts of a text

abbrev pub comma : ℕ
comma = 44

-- The first part, if there is one.
abbrev pub first_part : List Text → Text
first_part [] = []
first_part (part ∷ rest) = part

-- The bytes before the first separator, or all if there is none.
unfoldable pub before : ℕ → Text → Text
before separator bytes = first_part (parts separator bytes)

-- The bytes after the first separator, or none if there is none.
unfoldable pub after : ℕ → Text → Text
after separator [] = []
after separator (byte ∷ bytes) = if byte == separator then bytes else after separator bytes

-- The value of a name in a table, if the table has the name.
unfoldable pub named_value : {A : Type 0} → List (Bor Text × A) → Text → Option A
named_value [] name = None
named_value (row ∷ rows) name = if bytes_eq name row.0.now then Some row.1 else named_value rows name

-- ---- numbers

-- The number, if it is between the bounds.
abbrev pub bounded : ℕ → ℕ → Option ℕ → Option ℕ
bounded low high None = None
bounded low high (Some n) = if is_within low n high then Some n else None

-- The number in a text of 1 to 20 decimal digits, if it is between the bounds. The bounds are included.
unfoldable pub number_within : ℕ → ℕ → Text → Option ℕ
number_within low high text = bounded low high (decimal_value text)

-- The level of a log with a number, if there is one.
abbrev pub leveled : Option ℕ → Option LogLevel
leveled None = None
leveled (Some number) = level_of number

-- The level of a log in a text: a decimal number of 0 to 3.
unfoldable pub level_in : Text → Option LogLevel
level_in text = leveled (decimal_value text)

-- ---- results of the code

-- The value, or the name of the option whose value is bad.
abbrev pub named : {A : Type 0} → Result A BadValue → Result A Text
named (Ok value) = Ok value
named (Err bad) = Err bad.option.now
