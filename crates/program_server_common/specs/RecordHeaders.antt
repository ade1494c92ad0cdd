-- Defined by this project: the header of a record. It has three lines: the version and the format, the options that
-- were in force, and a command line that replays the record.
use Rattle.std.specs.Prelude.{ℕ, Bool, false, List, [], ◌∷◌, ◌++◌, ◌==◌, ◌&&◌, ◌||◌, not, if◌then◌else◌, codes, decimal}
use Rattle.std.specs.Borrow.{Bor}
use Rattle.std.specs.List.{flat_map, list_all}
use Rattle.std.specs.Char.{is_ascii_alphanumeric}
use Rattle.coap_model.specs.Configs.{ConfigValues, StartValues}
use Rattle.coap_print.specs.Texts.{is_text}

-- A byte that means itself in each command line: a letter, a digit, or one of `. _ / + -`.
abbrev pub is_plain : ℕ → Bool
is_plain byte =
    is_ascii_alphanumeric byte || (byte == 46) || (byte == 95) || (byte == 47) || (byte == 43) || (byte == 45)

-- The name of a file is a word of a command line: it needs no quotes and is no option.
abbrev pub is_word : List ℕ → Bool
is_word [] = false
is_word (first ∷ rest) = not (first == 45) && list_all is_plain (first ∷ rest)

-- The name of a file if it is a word of a command line, otherwise the word FILE.
abbrev pub shown_name : List ℕ → List ℕ
shown_name name = if is_word name then name else codes "FILE"

-- The values at which the counts of a server begin, as `--starts` reads them.
abbrev pub starts_text : StartValues → List ℕ
starts_text s = decimal s.moment ++ codes "," ++ decimal s.versions ++ codes "," ++ decimal s.ids

-- The options on which a replay depends. Those of turns, logs and silent connections do not change what a script does.
unfoldable pub options_text : ConfigValues → List ℕ
options_text c =
    codes "-d " ++ decimal c.dynamic_max
    ++ codes " --max-message " ++ decimal c.limits.max_message
    ++ codes " --max-sent " ++ decimal c.limits.max_sent
    ++ codes " --queue " ++ decimal c.limits.queue
    ++ codes " --pending " ++ decimal c.limits.pending
    ++ codes " --observers " ++ decimal c.limits.observers
    ++ codes " --connections " ++ decimal c.connections
    ++ codes " --starts " ++ starts_text c.starts

-- The words before numbers, each followed by its number.
abbrev pub numbers_text : List (Bor (List ℕ) × ℕ) → List ℕ
numbers_text rows = flat_map (λ row. row.0.now ++ decimal row.1) rows

-- True if all words before numbers are printable.
abbrev pub words_are_text : List (Bor (List ℕ) × ℕ) → Bool
words_are_text rows = list_all (λ row. is_text row.0.now) rows

-- The line of the header that states the options.
abbrev pub options_line : ConfigValues → List ℕ
options_line c = codes "# options: " ++ options_text c

-- The option for an entry that an application answers, as `--application` reads it, quoted by these bytes.
abbrev pub entry_text : (quote entry : List ℕ) → List ℕ
entry_text quote entry = codes " --application " ++ quote ++ entry ++ quote

-- The options for all entries.
abbrev pub entries_text : (quote : List ℕ) → List (List ℕ) → List ℕ
entries_text quote entries = flat_map (entry_text quote) entries

-- The header of the record with this name, of a program of this version, whose server has this configuration. Its
-- application answers these entries.
unfoldable pub header_text : (program version name : List ℕ) → ConfigValues → (entries : List (List ℕ)) → List ℕ
header_text program version name c entries =
    codes "# Record of " ++ program ++ codes " " ++ version ++ codes ", format 1\n"
    ++ options_line c ++ entries_text [] entries ++ codes "\n"
    ++ codes "# replay: coap-server --script " ++ shown_name name ++ codes " " ++ options_text c
    ++ entries_text (codes "'") entries
    ++ codes "\n"
