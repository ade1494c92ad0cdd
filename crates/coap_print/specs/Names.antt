-- The names of codes, options and Content-Formats: rows of the tables of src/tables.rt.
use Rattle.std.specs.Prelude.{ℕ, Bool, ◌==◌, ◌||◌, List, [], ◌∷◌, map, Option, Some, None, option_map, if◌then◌else◌}
use Rattle.std.specs.Borrow.{Bor}
use Rattle.std.specs.List.{list_all}
use Rattle.coap_wire.specs.Codes as codes
use Rattle.coap_print.specs.Texts.{is_text}
use Rattle.coap_print.specs.declared.tables.Format.{Format}
use Rattle.coap_print.specs.declared.tables.TheConstants.{CODE_NAMES, OPTIONS, CSM_OPTIONS, PING_OPTIONS}
use Rattle.coap_print.specs.declared.tables.TheConstants.{RELEASE_OPTIONS, ABORT_OPTIONS, CONTENT_FORMATS}

-- ---- rows

-- A number and its name.
pub record NameRow : Type 0 where
  pub number : ℕ
  pub name : List ℕ

-- The number of an option, its name, and the format of its value.
pub record OptionRow : Type 0 where
  pub number : ℕ
  pub name : List ℕ
  pub format : Format

-- The rows that contracts see for rows of the code.
abbrev pub name_row : ℕ × Bor (List ℕ) → NameRow
name_row row = record { number = row.0; name = row.1.now }

abbrev pub option_row : ℕ × Bor (List ℕ) × Format → OptionRow
option_row row = record { number = row.0; name = row.1.now; format = row.2 }

-- True if each name is printable.
abbrev pub names_are_text : List NameRow → Bool
names_are_text rows = list_all (λ row. is_text row.name) rows

abbrev pub options_are_text : List OptionRow → Bool
options_are_text rows = list_all (λ row. is_text row.name) rows

-- The name in the first row with a number.
unfoldable pub name_in : List NameRow → ℕ → Option (List ℕ)
name_in [] number = None
name_in (row ∷ rows) number = if row.number == number then Some row.name else name_in rows number

-- The first row with a number.
unfoldable pub option_in : List OptionRow → ℕ → Option OptionRow
option_in [] number = None
option_in (row ∷ rows) number = if row.number == number then Some row else option_in rows number

-- ---- tables

abbrev pub code_names : List NameRow
code_names = map (λ row. record { number = row.0; name = row.1.now }) CODE_NAMES

abbrev pub content_formats : List NameRow
content_formats = map (λ row. record { number = row.0; name = row.1.now }) CONTENT_FORMATS

abbrev pub options : List OptionRow
options = map (λ row. record { number = row.0; name = row.1.now; format = row.2 }) OPTIONS

abbrev pub csm_options : List OptionRow
csm_options = map (λ row. record { number = row.0; name = row.1.now; format = row.2 }) CSM_OPTIONS

abbrev pub ping_options : List OptionRow
ping_options = map (λ row. record { number = row.0; name = row.1.now; format = row.2 }) PING_OPTIONS

abbrev pub release_options : List OptionRow
release_options = map (λ row. record { number = row.0; name = row.1.now; format = row.2 }) RELEASE_OPTIONS

abbrev pub abort_options : List OptionRow
abort_options = map (λ row. record { number = row.0; name = row.1.now; format = row.2 }) ABORT_OPTIONS

-- ---- names

-- The name of a code.
unfoldable pub code_name : ℕ → Option (List ℕ)
code_name code = name_in code_names code

-- The name of a Content-Format.
unfoldable pub content_format_name : ℕ → Option (List ℕ)
content_format_name number = name_in content_formats number

-- The row of an option in a Signalling Message: each code has options of its own (RFC 8323 section 5.2).
unfoldable pub signalling_option : ℕ → ℕ → Option OptionRow
signalling_option code number =
    if code == codes.csm then option_in csm_options number
    else (if code == codes.ping || code == codes.pong then option_in ping_options number
    else (if code == codes.release then option_in release_options number
    else (if code == codes.abort then option_in abort_options number
    else None)))

-- The name of an option of requests and responses.
unfoldable pub option_name : ℕ → Option (List ℕ)
option_name number = option_map (λ row. row.name) (option_in options number)

-- The row of an option in a message with a code.
unfoldable pub known_option : ℕ → ℕ → Option OptionRow
known_option code number = if codes.class_of code == 7 then signalling_option code number else option_in options number
