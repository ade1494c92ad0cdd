-- Defined by this project: a list of byte strings as one text.
use Rattle.std.specs.Prelude.{ℕ, ◌-◌, List, [], ◌∷◌, ◌++◌, length, take, drop}

-- The entries, one after the other.
unfoldable pub joined : List (List ℕ) → List ℕ
joined [] = []
joined (e ∷ es) = e ++ joined es

-- The entries of these lengths, one after the other, with which the bytes begin.
unfoldable pub split_by : List ℕ → List ℕ → List (List ℕ)
split_by [] bytes = []
split_by (n ∷ ns) bytes = take n bytes ∷ split_by ns (drop n bytes)

-- An entry with other bytes in place of its last `count` ones.
abbrev pub with_end : List ℕ → ℕ → List ℕ → List ℕ
with_end entry count end = take (length entry - count) entry ++ end
