-- The percent-encoding of a segment.
use Rattle.std.proofs.Common.{◌≡◌, ℕ, ◌/◌, ◌%◌, ◌<◌, suc, List, [], ◌∷◌, get_or, refl, arith}
use Rattle.coap_store.specs.Prelude.{not, flat_map, should_percent_encode, percent_encode_byte, encode_byte}
use Rattle.coap_store.specs.Prelude.{percent_encode, ESCAPED, is_unreserved, encoded_byte}
use Rattle.std.proofs.lemmas.Bool.{agree_below_at}

-- Unreserved bytes are not escaped, and all others are.
escaped_is : (b : ℕ) → b < 256 → should_percent_encode ESCAPED b ≡ not (is_unreserved b)
unfolding should_percent_encode
escaped_is b small = agree_below_at (should_percent_encode ESCAPED) (λ n. not (is_unreserved n)) 256 b refl small

byte_is : (b : ℕ) → b < 256 → encode_byte ESCAPED b ≡ encoded_byte b
unfolding encoded_byte percent_encode_byte
byte_is b small =
    let high : b / 16 % 16 ≡ b / 16 = omega arith in
    rw (escaped_is b small, high) (grind arith)

-- A segment is escaped as the listing defines it.
pub segment_is : (s : List ℕ) → ((k : ℕ) → get_or s k 0 < 256) → percent_encode ESCAPED s ≡ flat_map encoded_byte s
unfolding percent_encode
segment_is [] small = refl
segment_is (b ∷ s) small = rw (byte_is b (small 0), segment_is s (λ k. small (suc k)))
