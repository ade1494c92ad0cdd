-- Defined by this project: sets of the indices of connections.
use Rattle.std.specs.Prelude.{◌≡◌, ℕ, ◌/◌, ◌%◌, ◌<◌, List, get_or}
use Rattle.std.specs.Int.{bit_at}

-- The bit of an index in words of 64 bits.
abbrev pub bit_of : List ℕ → ℕ → ℕ
bit_of words i = bit_at (get_or words (i / 64) 0) (i % 64)

-- The index does not belong to a set of indices with these words. Each index from 256 on belongs to every set.
pub record IsOutside (words : List ℕ) (i : ℕ) : Type 0 where
  pub within : i < 256
  pub bit : bit_of words i ≡ 0
