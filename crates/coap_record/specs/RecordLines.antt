-- Defined by this project: the line that a record has for a call which a server accepted.
use Rattle.std.specs.Prelude.{ℕ, List, [], ◌∷◌, ◌++◌, Option, Some, None, codes, decimal}
use Rattle.hex.specs.Hex.{encode_lower}
use Rattle.coap_wire.specs.Spelling.{spelling}
use Rattle.coap_path.specs.Paths.{Path}
use Rattle.coap_store.specs.Listing.{path_bytes}
use Rattle.coap_script.specs.script.Lines.{bytes_text, tick_line, word_line}
use Rattle.coap_model.specs.world.Events.{AcceptedCall, Opened, Took, Wrote, Ticked, Stored, Removed, Ended, Released}
use Rattle.coap_model.specs.world.Events.{Announced, Responded, Dropped}

-- The word of a path: a slash before each segment, which is percent-encoded, and one slash for the root.
unfoldable pub path_word : Path → List ℕ
path_word [] = codes "/"
path_word (segment ∷ segments) = path_bytes (segment ∷ segments)

-- The word of a Content-Format; a hyphen for none.
abbrev pub format_word : Option ℕ → List ℕ
format_word None = codes "-"
format_word (Some format) = decimal format

-- These bytes were accepted on a connection. There is no line for no bytes, since a script has none.
unfoldable pub took_line : ℕ → List ℕ → List ℕ
took_line id [] = []
took_line id (byte ∷ bytes) = codes "in " ++ decimal id ++ codes " " ++ encode_lower (byte ∷ bytes) ++ codes "\n"

-- This number of bytes was written to a connection.
abbrev pub drain_line : ℕ → ℕ → List ℕ
drain_line id count = codes "drain " ++ decimal id ++ codes " " ++ decimal count ++ codes "\n"

-- A representation was stored.
abbrev pub stored_line : Path → Option ℕ → List ℕ → List ℕ
stored_line path format bytes =
    codes "put " ++ path_word path ++ codes " " ++ format_word format ++ codes " " ++ bytes_text bytes ++ codes "\n"

-- A resource was removed.
abbrev pub removed_line : Path → List ℕ
removed_line path = codes "remove " ++ path_word path ++ codes "\n"

-- A message size was announced on a connection. The line is a comment, since no event of a script announces a size. So
-- a record is faithful only up to the first such line.
abbrev pub announced_line : ℕ → ℕ → List ℕ
announced_line id size = codes "# announced " ++ decimal id ++ codes " " ++ decimal size ++ codes "\n"

-- The application responded on a connection, with the encoded response.
abbrev pub respond_line : ℕ → List ℕ → List ℕ
respond_line id bytes = codes "respond " ++ decimal id ++ codes " " ++ encode_lower bytes ++ codes "\n"

-- The line of a call: that of the script's event which makes the call again. The script's `open` opens the next number,
-- so the line of `Opened` has none.
unfoldable pub line_of : AcceptedCall → List ℕ
line_of (Opened id) = codes "open\n"
line_of (Took id bytes) = took_line id bytes
line_of (Wrote id count) = drain_line id count
line_of (Ticked now) = tick_line now
line_of (Stored path format bytes) = stored_line path format bytes
line_of (Removed path) = removed_line path
line_of (Ended id) = word_line (codes "end") id
line_of (Released id) = word_line (codes "release") id
line_of (Announced id size) = announced_line id size
line_of (Responded id m) = respond_line id (spelling m)
line_of (Dropped id) = word_line (codes "drop") id

-- The lines of calls, in order.
unfoldable pub lines_of : List AcceptedCall → List ℕ
lines_of [] = []
lines_of (c ∷ cs) = line_of c ++ lines_of cs
