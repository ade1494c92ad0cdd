-- Defined by this project: printable text, and bytes written as printable text.
use Rattle.std.specs.Prelude.{ℕ, ◌+◌, ◌/◌, ◌%◌, Bool, not, ◌&&◌, ◌==◌, nat_le, nat_lt, List, [], ◌∷◌, ◌++◌, codes}
use Rattle.std.specs.Prelude.{if◌then◌else◌}
use Rattle.std.specs.List.{list_all, flat_map}

-- True if a byte is printable ASCII: a space, a tilde or a byte between them.
abbrev pub is_printable : ℕ → Bool
is_printable byte = nat_le 0x20 byte && nat_le byte 0x7e

-- True if each byte is printable ASCII.
abbrev pub is_text : List ℕ → Bool
is_text bytes = list_all is_printable bytes

-- ---- hexadecimal

-- The digit of a number below 16: 0 to 9, or a to f.
abbrev pub hex_digit : ℕ → ℕ
hex_digit n = if nat_lt n 10 then 48 + n else 87 + n

-- A byte as two digits.
abbrev pub hex_of_byte : ℕ → List ℕ
hex_of_byte byte = hex_digit (byte / 16) ∷ hex_digit (byte % 16) ∷ []

-- Bytes as two digits each.
abbrev pub hex_text : List ℕ → List ℕ
hex_text bytes = flat_map hex_of_byte bytes

-- ---- escaped text

-- True if a byte is written as itself: it is printable, and neither a backslash nor a quotation mark.
abbrev pub is_plain : ℕ → Bool
is_plain byte = is_printable byte && not (byte == 0x5c) && not (byte == 0x22)

-- A byte written as itself, or \xNN.
abbrev pub escape_of : ℕ → List ℕ
escape_of byte = if is_plain byte then byte ∷ [] else codes "\\x" ++ hex_of_byte byte

-- Each byte as itself or as \xNN.
abbrev pub escaped_text : List ℕ → List ℕ
escaped_text bytes = flat_map escape_of bytes

-- Escaped text between quotation marks.
abbrev pub quoted : List ℕ → List ℕ
quoted bytes = codes "\"" ++ escaped_text bytes ++ codes "\""
