-- RFC 7252 sections 5.10.1 and 6.4: the paths of resources.
use Rattle.std.specs.Prelude.{ℕ, ◌+◌, Bool, not, ◌&&◌, ◌||◌, List, [], ◌∷◌, length, nat_le, nat_eq, codes}
use lib.Pointwise.{pointwise}
use Rattle.std.specs.List.{list_any}

-- The segments of a path. The root has none.
abbrev pub Path : Type 0
Path = List (List ℕ)

-- Two segments are equal.
abbrev pub same_bytes : List ℕ → List ℕ → Bool
same_bytes xs ys = pointwise nat_eq xs ys

-- Two paths are equal: their lists of segments are equal.
abbrev pub same_path : Path → Path → Bool
same_path p q = pointwise same_bytes p q

-- The segment is `.` or `..`.
abbrev pub is_dots : List ℕ → Bool
is_dots s = same_bytes s (codes ".") || same_bytes s (codes "..")

-- The number of bytes of a path, where each segment counts one byte more than it has.
abbrev pub written_length : Path → ℕ
written_length [] = 0
written_length (s ∷ ss) = 1 + length s + written_length ss

-- The path is a single segment, which is empty.
abbrev pub is_one_empty : Path → Bool
is_one_empty p = same_path p ([] ∷ [])

-- A resource can have this path: at most 16 segments, and at most 255 bytes with a slash before each segment. No
-- segment is `.` or `..`, and a single segment is not empty.
unfoldable pub is_path : Path → Bool
is_path p = nat_le (length p) 16 && nat_le (written_length p) 255 && not (list_any is_dots p) && not (is_one_empty p)
