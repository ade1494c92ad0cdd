-- RFC 7252 section 3.2: the value of an option of format uint.
use Rattle.std.specs.Prelude.{ℕ, zero, suc, ◌+◌, ◌*◌, List, [], ◌∷◌, fold}
use Rattle.std.specs.Int.{w64, to_be_bytes}

-- The number that bytes encode in network order. Leading zero bytes are accepted, and no byte encodes 0.
abbrev pub uint_of : List ℕ → ℕ
uint_of bytes = fold (λ n b. 256 * n + b) 0 bytes

-- The bytes from the first one on that is not 0.
abbrev pub without_leading_zeros : List ℕ → List ℕ
without_leading_zeros [] = []
without_leading_zeros (zero ∷ bs) = without_leading_zeros bs
without_leading_zeros (suc b ∷ bs) = suc b ∷ bs

-- The shortest encoding of a number `n` below 2^64. For 0 this is no byte.
unfoldable pub bytes_of_uint : ℕ → List ℕ
bytes_of_uint n = without_leading_zeros (to_be_bytes w64 n)
