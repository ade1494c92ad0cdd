-- Defined by this project: the line that reports the end of a record.
use Rattle.std.specs.Prelude.{ℕ, Bool, true, false, List, ◌++◌, if◌then◌else◌, codes, decimal}
use Rattle.coap_print.specs.Texts.{escaped_text}
use Rattle.coap_text.specs.Words.{is_hyphen}

-- The name of a record in a line. A hyphen means standard output.
abbrev pub title_text : List ℕ → List ℕ
title_text name = if is_hyphen name then codes "standard output" else escaped_text name

-- The first words of the line, with the name of the program.
abbrev pub front_text : List ℕ → List ℕ
front_text program = escaped_text program ++ codes ": record ended: "

-- The line for a record of this program that has ended: a write has failed, or it has reached the limit.
unfoldable pub end_text : (program name : List ℕ) (limit : ℕ) (has_failed : Bool) → List ℕ
end_text program name limit true = front_text program ++ codes "cannot write " ++ title_text name
end_text program name limit false =
    front_text program ++ title_text name ++ codes " has reached " ++ decimal limit ++ codes " bytes"
