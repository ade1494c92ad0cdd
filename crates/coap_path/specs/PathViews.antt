-- Defined by this project: the bytes of a `PathKey`, which have each segment after a byte with its length.
use Rattle.std.specs.Prelude.{◌≡◌, ℕ, zero, suc, true, List, [], ◌∷◌, ◌++◌, length, take, drop, map}
use Rattle.std.specs.Borrow.{Bor}
use Rattle.coap_path.specs.Paths.{Path, is_path}
use Rattle.coap_path.specs.declared.path.PathKey.TheInside.{Inside}

-- The bytes of a path: each segment after a byte with its length.
unfoldable pub written : Path → List ℕ
written [] = []
written (s ∷ ss) = length s ∷ (s ++ written ss)

-- The segments in these bytes, but at most `turns` of them.
unfoldable pub segments_by : ℕ → List ℕ → Path
segments_by turns [] = []
segments_by zero (n ∷ rest) = []
segments_by (suc turns) (n ∷ rest) = take n rest ∷ segments_by turns (drop n rest)

-- The segments in these bytes. Each takes at least one byte, so their number is at most that of the bytes.
unfoldable pub segments_at : List ℕ → Path
segments_at bytes = segments_by (length bytes) bytes

-- The bytes are segments after their lengths, and nothing else.
abbrev pub IsWritten : List ℕ → Type 0
IsWritten bytes = written (segments_at bytes) ≡ bytes

-- The path of a key.
abbrev pub segments_in : Inside → Path
segments_in k = segments_at k.bytes.items

-- The invariant of a key: its bytes are those of a path.
abbrev pub is_key : Inside → Type 0
is_key k = IsWritten k.bytes.items × (is_path (segments_in k) ≡ true)

-- The key of a path.
abbrev pub key_of : Path → Inside
key_of p = record { bytes = record { items = written p } }

-- A key is the key of its path.
pub key_back : (k : Inside) → is_key k → key_of (segments_in k) ≡ k
key_back k is = λ i. record { bytes = record { items = is.0 i } }

-- The bytes of each of these slices.
abbrev pub segment_list : List (Bor (List ℕ)) → Path
segment_list segments = map (λ s. s.now) segments
