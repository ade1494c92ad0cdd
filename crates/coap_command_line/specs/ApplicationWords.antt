-- Defined by this project: the entries of the application that the values of `--application` name. Each value is
-- `PATH;METHODS;ATTRIBUTES`.
use Rattle.std.specs.Prelude.{◌≡◌, ◌∷◌, [], ◌&&◌, ◌==◌, ℕ, Bool, true, false, List, Option, Some, None, option_and_then}
use Rattle.std.specs.Prelude.{option_map, is_none, Result, Ok, Err, codes, if◌then◌else◌}
use Rattle.clap.specs.Words.{Row, Text, all_of}
use Rattle.coap_path.specs.Applications.{ApplicationsValue}
use Rattle.coap_path.specs.Refusals.{entry_refusal, with_entry}
use Rattle.coap_path.specs.Paths.{Path, same_bytes}
use Rattle.coap_script.specs.script.Words.{path_value}
use Rattle.coap_text.specs.Words.{parts}
use Rattle.coap_command_line.specs.CommandLines.{after, before, comma, number_within}

abbrev pub semicolon : ℕ
semicolon = 0x3b

abbrev pub zero_digit : ℕ
zero_digit = 0x30

abbrev pub dot : ℕ
dot = 0x2e

-- ---- methods

-- RFC 7252 section 12.1.1: the code in a text such as `0.08`. The text is `0.`, followed by two digits of a
-- number from 1 to 31.
unfoldable pub code_in : Text → Option ℕ
code_in (class ∷ point ∷ tens ∷ ones ∷ []) =
    if (class == zero_digit) && (point == dot) then number_within 1 31 (tens ∷ ones ∷ []) else None
code_in other = None

-- RFC 7252 section 12.1.1 and RFC 8132 section 6: the code of a method. A text is the name of a method, or its code.
unfoldable pub method_in : Text → Option ℕ
method_in text =
    if same_bytes text (codes "get") then Some 1
    else (if same_bytes text (codes "post") then Some 2
    else (if same_bytes text (codes "put") then Some 3
    else (if same_bytes text (codes "delete") then Some 4
    else (if same_bytes text (codes "fetch") then Some 5
    else (if same_bytes text (codes "patch") then Some 6
    else (if same_bytes text (codes "ipatch") then Some 7
    else code_in text))))))

-- The codes of all texts, or nothing if one of them is no method.
unfoldable pub codes_of : List Text → Option (List ℕ)
codes_of [] = Some []
codes_of (text ∷ texts) =
    option_and_then (λ code. option_map (λ others. code ∷ others) (codes_of texts)) (method_in text)

-- The codes of the methods in a text, which are separated by commas.
abbrev pub methods_in : Text → Option (List ℕ)
methods_in text = codes_of (parts comma text)

-- ---- entries

-- The entries with one more, unless `Applications::add` rejects it.
abbrev pub with_parts : ApplicationsValue → Option Path → Option (List ℕ) → Text → Option ApplicationsValue
with_parts v (Some path) (Some methods) attributes =
    if is_none (entry_refusal v.entries path methods attributes)
    then Some (with_entry v path methods attributes) else None
with_parts v (Some path) None attributes = None
with_parts v None methods attributes = None

-- The entries with the one that a text names. The text has a path as in the lines of a script, its methods, and the
-- attributes of its link, separated by semicolons. The second semicolon may be missing, and there are no
-- attributes then.
unfoldable pub with_text : ApplicationsValue → Text → Option ApplicationsValue
with_text v text =
    with_parts v (path_value (before semicolon text)) (methods_in (before semicolon (after semicolon text)))
    (after semicolon (after semicolon text))

-- The result of the next texts, or the text that names no entry.
abbrev pub or_refused : Text → (ApplicationsValue → Result ApplicationsValue Text) → Option ApplicationsValue
    → Result ApplicationsValue Text
or_refused text next None = Err text
or_refused text next (Some v) = next v

-- The entries with those that all texts name, in order, or the first text that names none.
unfoldable pub with_texts : ApplicationsValue → List Text → Result ApplicationsValue Text
with_texts v [] = Ok v
with_texts v (text ∷ texts) = or_refused text (λ next. with_texts next texts) (with_text v text)

-- No entries. The application has 60 seconds for a response.
abbrev pub no_entries : ApplicationsValue
no_entries = record { deadline = 60; entries = [] }

-- The entries, if there are some.
abbrev pub found_entries : Result ApplicationsValue Text → Result (Option ApplicationsValue) Text
found_entries (Ok v) = Ok (Some v)
found_entries (Err text) = Err text

-- The entries that the values of the option name, or the first value that names none. There is no application
-- without the option.
abbrev pub entries_of : Option (List Text) → Result (Option ApplicationsValue) Text
entries_of None = Ok None
entries_of (Some texts) = found_entries (with_texts no_entries texts)

-- The entries of the application, or the first value that names none.
unfoldable pub applications_said : List Row → Result (Option ApplicationsValue) Text
applications_said rows = entries_of (all_of (codes "--application") rows)

-- The value that names no entry, if there is one.
abbrev pub refused_value : Result (Option ApplicationsValue) Text → Option Text
refused_value (Ok found) = None
refused_value (Err text) = Some text

-- ---- results of the code

-- An entry was added, or rejected. In the second case the entries are unchanged.
abbrev pub AddsText : Bool → ApplicationsValue → ApplicationsValue → Option ApplicationsValue → Type 0
AddsText added old new None = (added ≡ false) × (new ≡ old)
AddsText added old new (Some v) = (added ≡ true) × (new ≡ v)
