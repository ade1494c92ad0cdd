-- Defined by this project: the path, the Content-Format and the methods that C names.
use Rattle.std.specs.Prelude.{◌≡◌, ◌≢◌, ℕ, zero, suc, ◌+◌, ◌/◌, ◌%◌, Bool, true, false, List, [], ◌∷◌, ◌++◌, length}
use Rattle.std.specs.Prelude.{take, drop, Option, Some, None, option_map, option_and_then, nat_le, nat_lt, ◌==◌, ◌⊎◌}
use Rattle.std.specs.Prelude.{if◌then◌else◌}
use Rattle.coap_path.specs.Paths.{Path, is_path}
use Rattle.coap_text.specs.Words.{parts}

-- The segments of a text: its bytes between slashes. The empty text has none.
unfoldable pub text_segments : List ℕ → Path
text_segments [] = []
text_segments (byte ∷ bytes) = parts 47 (byte ∷ bytes)

-- The path with these segments, if a path can have them.
abbrev pub path_with : Path → Option Path
path_with segments = if is_path segments then Some segments else None

-- The path that a text names, if a path can have its segments.
abbrev pub text_path : List ℕ → Option Path
text_path text = path_with (text_segments text)

-- The segments of a list, if it has at most `turns` of them.
unfoldable pub listed_by : (turns : ℕ) → List ℕ → Option Path
listed_by turns [] = Some []
listed_by zero (n ∷ rest) = None
listed_by (suc turns) (n ∷ rest) =
    if nat_le n (length rest)
    then option_map (λ segments. take n rest ∷ segments) (listed_by turns (drop n rest)) else None

-- The segments of a list: each is a byte with its length, followed by that many bytes. The empty list has none. `None`
-- if the last segment is truncated. Each segment takes at least one byte, so their number is at most that of the bytes.
unfoldable pub listed_segments : List ℕ → Option Path
listed_segments list = listed_by (length list) list

-- The path whose segments a list has, if a path can have them.
abbrev pub listed_path : List ℕ → Option Path
listed_path list = option_and_then path_with (listed_segments list)

-- The segments of a path, each after a slash.
abbrev pub slashed : Path → List ℕ
slashed [] = []
slashed (s ∷ ss) = 47 ∷ s ++ slashed ss

-- No text names a path. This is so if a segment has a slash.
abbrev pub HasNoText : Path → Type 0
HasNoText path = (text : List ℕ) → text_path text ≢ Some path

-- The call wrote nothing, and returned this number.
abbrev pub WritesNothing : ℕ → (buffer buffer' : List ℕ) → (count count' : ℕ) → ℕ → Type 0
WritesNothing number buffer buffer' count count' r = (r ≡ number) × ((buffer' ≡ buffer) × (count' ≡ count))

-- A text was written to the start of a buffer, whose other bytes are the same, unless the buffer is too short for it.
abbrev pub WritesText : (short : Bool) → List ℕ → (buffer buffer' : List ℕ) → (count count' : ℕ) → ℕ → Type 0
WritesText true text buffer buffer' count count' r = WritesNothing 7 buffer buffer' count count' r
WritesText false text buffer buffer' count count' r =
    (r ≡ 0) × ((count' ≡ length text) × (buffer' ≡ text ++ drop count' buffer))

-- The text that names a path was written, or 4 says that no text names it, or that there is no path.
abbrev pub IsPathWritten : Option Path → (buffer buffer' : List ℕ) → (count count' : ℕ) → ℕ → Type 0
IsPathWritten None buffer buffer' count count' r = WritesNothing 4 buffer buffer' count count' r
IsPathWritten (Some path) buffer buffer' count count' r =
    ((text : List ℕ) × (text_path text ≡ Some path)
    × WritesText (nat_lt (length buffer) (length text)) text buffer buffer' count count' r)
    ⊎ (HasNoText path × WritesNothing 4 buffer buffer' count count' r)

-- The Content-Format that a number names: itself if it has 16 bits, otherwise none.
abbrev pub format_named : ℕ → Option ℕ
format_named n = if nat_le n 65535 then Some n else None

-- The number of a Content-Format, or 65,536 for none.
abbrev pub format_number : Option ℕ → ℕ
format_number (Some n) = n
format_number None = 65536

-- The numbers from `n` on whose bits are set in `bits`, whose first bit is that of `n`, among the next `count` bits.
abbrev pub set_bits : (count bits n : ℕ) → List ℕ
set_bits zero bits n = []
set_bits (suc count) bits n =
    if bits % 2 == 1 then n ∷ set_bits count (bits / 2) (n + 1) else set_bits count (bits / 2) (n + 1)

-- The codes of class 0 whose bits are set.
abbrev pub methods_named : ℕ → List ℕ
methods_named bits = set_bits 32 bits 0
