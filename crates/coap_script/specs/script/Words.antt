-- Defined by this project: the words of a script's lines, and their values.
use Rattle.std.specs.Prelude.{ℕ, ◌==◌, List, [], ◌∷◌, map, nat_le, Option, Some, None, if◌then◌else◌}
use Rattle.percent_encoding.specs.Percent.{percent_decode}
use Rattle.coap_text.specs.Words.{parts, is_hyphen, decimal_value, hex_value}
use Rattle.coap_path.specs.Paths.{Path}
use Rattle.coap_store.specs.State.{key_for}

abbrev pub newline : ℕ
newline = 10

abbrev pub space : ℕ
space = 32

abbrev pub slash : ℕ
slash = 47

-- The words of a line. Exactly one space separates two words, so two spaces have an empty word between them.
abbrev pub words_of : List ℕ → List (List ℕ)
words_of line = parts space line

-- The bytes that a word encodes in hexadecimal digits; no bytes for a hyphen.
unfoldable pub payload_value : List ℕ → Option (List ℕ)
payload_value word = if is_hyphen word then Some [] else hex_value word

-- The number as an optional format, if it is at most 65,535.
abbrev pub small_number : Option ℕ → Option (Option ℕ)
small_number None = None
small_number (Some n) = if nat_le n 65535 then Some (Some n) else None

-- The Content-Format that a word names: a number of at most 65,535, or none for a hyphen.
unfoldable pub format_value : List ℕ → Option (Option ℕ)
format_value word = if is_hyphen word then Some None else small_number (decimal_value word)

-- The segments of a path after its first slash, each decoded as the crate `percent_encoding` does; none for an empty
-- text.
unfoldable pub segments_of : List ℕ → Path
segments_of [] = []
segments_of (byte ∷ bytes) = map percent_decode (parts slash (byte ∷ bytes))

-- The path that a word names. The word is a slash, followed by segments with a slash between each two, and these must
-- be valid as a path.
unfoldable pub path_value : List ℕ → Option Path
path_value [] = None
path_value (byte ∷ bytes) = if byte == slash then key_for (segments_of bytes) else None
