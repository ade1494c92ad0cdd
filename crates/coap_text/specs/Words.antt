-- Defined by this project: the words of a text, and the numbers and bytes that they mean.
use Rattle.std.specs.Prelude.{ℕ, Bool, ◌&&◌, ◌==◌, List, [], ◌∷◌, length, nat_le, nat_eq, Option, Some, None}
use Rattle.std.specs.Prelude.{if◌then◌else◌, codes}
use Rattle.std.specs.Char.{is_ascii_digit}
use Rattle.std.specs.List.{list_all, slice_split}
use lib.Pointwise.{pointwise}
use Rattle.std.specs.Result.{result_ok}
use Rattle.std.specs.Str.Parse.{digits_value}
use Rattle.hex.specs.Hex.{decode_of}

-- The parts between separators: one part more than there are separators.
abbrev pub parts : ℕ → List ℕ → List (List ℕ)
parts separator bytes = slice_split (λ b. b == separator) bytes

-- True if a word is one hyphen.
abbrev pub is_hyphen : List ℕ → Bool
is_hyphen word = pointwise nat_eq word (codes "-")

-- The number that a word of 1 to 20 decimal digits means, if the number fits in 64 bits.
unfoldable pub decimal_value : List ℕ → Option ℕ
decimal_value word =
    if nat_le 1 (length word) && nat_le (length word) 20 && list_all is_ascii_digit word
    && nat_le (digits_value 10 word) 18446744073709551615
    then Some (digits_value 10 word)
    else None

-- The bytes that a word of one or more pairs of hexadecimal digits means. The digits may be of either case; the crate
-- `hex` decodes them.
unfoldable pub hex_value : List ℕ → Option (List ℕ)
hex_value [] = None
hex_value (digit ∷ digits) = result_ok (decode_of (digit ∷ digits))
