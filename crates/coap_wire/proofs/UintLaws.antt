-- The bytes of a number encode that number.
use Rattle.std.proofs.Common.{◌≡◌, ℕ, zero, suc, ◌<◌, ◌≤◌, ◌^◌, List, [], ◌∷◌, length, refl, sym, ap, ◌∙◌, arith}
use Rattle.std.proofs.lemmas.Nat.{from_be_bytes-to_be_bytes_8}
use Rattle.std.specs.Int.{byte_at}
use Rattle.coap_wire.specs.Prelude.{w32, w64, to_be_bytes, uint_of, without_leading_zeros, bytes_of_uint}

-- Leading zero bytes do not change the number.
zeros_mean_nothing : (bytes : List ℕ) → uint_of (without_leading_zeros bytes) ≡ uint_of bytes
zeros_mean_nothing [] = refl
zeros_mean_nothing (zero ∷ bytes) = zeros_mean_nothing bytes
zeros_mean_nothing (suc b ∷ bytes) = refl

all_bytes_mean : (n : ℕ) → n < 2 ^ 64 → uint_of (to_be_bytes w64 n) ≡ n
all_bytes_mean n fits = omega (arith, from_be_bytes-to_be_bytes_8 n fits)

-- The shortest encoding of a number encodes it.
pub uint_of_bytes : (n : ℕ) → n < 2 ^ 64 → uint_of (bytes_of_uint n) ≡ n
unfolding bytes_of_uint
uint_of_bytes n fits = zeros_mean_nothing (to_be_bytes w64 n) ∙ all_bytes_mean n fits

-- Numbers with equal encodings are equal.
pub bytes_are_one : (m n : ℕ) → m < 2 ^ 64 → n < 2 ^ 64 → bytes_of_uint m ≡ bytes_of_uint n → m ≡ n
bytes_are_one m n p q same = sym (uint_of_bytes m p) ∙ ap uint_of same ∙ uint_of_bytes n q

-- Without leading zeros, a list is no longer.
zeros_shorten : (bytes : List ℕ) → length (without_leading_zeros bytes) ≤ length bytes
zeros_shorten [] = omega arith
zeros_shorten (zero ∷ bytes) = omega (arith, zeros_shorten bytes)
zeros_shorten (suc b ∷ bytes) = omega arith

-- The shortest encoding of a number has at most 8 bytes.
pub eight_bytes_at_most : (n : ℕ) → length (bytes_of_uint n) ≤ 8
unfolding bytes_of_uint
eight_bytes_at_most n = zeros_shorten (to_be_bytes w64 n)

-- ---- numbers below 2^32

zeros_first : (a b c d : ℕ) (s : List ℕ) → a ≡ 0 → b ≡ 0 → c ≡ 0 → d ≡ 0
    → without_leading_zeros (a ∷ b ∷ c ∷ d ∷ s) ≡ without_leading_zeros s
zeros_first a b c d s p q r t = rw (p, q, r, t) refl

-- The shortest encoding of a number below 2^32 is that of its last 4 bytes.
pub four_bytes_of : (n : ℕ) → n < 2 ^ 32 → bytes_of_uint n ≡ without_leading_zeros (to_be_bytes w32 n)
unfolding bytes_of_uint
four_bytes_of n fits =
    zeros_first (byte_at 7 n) (byte_at 6 n) (byte_at 5 n) (byte_at 4 n) (to_be_bytes w32 n) (omega arith) (omega arith)
    (omega arith) (omega arith)

-- The shortest encoding of 0 has no byte.
pub no_byte_of_zero : bytes_of_uint 0 ≡ []
unfolding bytes_of_uint
no_byte_of_zero = refl

one_byte_left : (a b c d e f g h : ℕ) → a ≡ 0 → b ≡ 0 → c ≡ 0 → d ≡ 0 → e ≡ 0 → f ≡ 0 → g ≡ 0
    → without_leading_zeros (a ∷ b ∷ c ∷ d ∷ e ∷ f ∷ g ∷ suc h ∷ []) ≡ suc h ∷ []
one_byte_left a b c d e f g h p q r s t u v = rw (p, q, r, s, t, u, v) refl

-- The shortest encoding of a number from 1 to 255 has one byte.
pub one_byte_of : (n : ℕ) → 0 < n → n < 256 → bytes_of_uint n ≡ n ∷ []
unfolding bytes_of_uint
one_byte_of zero some fits = absurd (omega arith)
one_byte_of (suc n) some fits =
    let last : byte_at 0 (suc n) ≡ suc n = omega arith in
    ap (λ (b : ℕ). without_leading_zeros (byte_at 7 (suc n) ∷ byte_at 6 (suc n) ∷ byte_at 5 (suc n) ∷ byte_at 4 (suc n)
    ∷ byte_at 3 (suc n) ∷ byte_at 2 (suc n) ∷ byte_at 1 (suc n) ∷ b ∷ [])) last
    ∙ one_byte_left (byte_at 7 (suc n)) (byte_at 6 (suc n)) (byte_at 5 (suc n)) (byte_at 4 (suc n)) (byte_at 3 (suc n))
    (byte_at 2 (suc n)) (byte_at 1 (suc n)) n (omega arith) (omega arith) (omega arith) (omega arith) (omega arith)
    (omega arith) (omega arith)
