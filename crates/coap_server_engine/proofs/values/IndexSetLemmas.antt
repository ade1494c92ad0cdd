-- Bits of a set of indices.
use Rattle.std.proofs.Common.{◌≡◌, ◌≢◌, ℕ, ◌+◌, ◌-◌, ◌*◌, ◌/◌, ◌%◌, ◌^◌, ◌<◌, ◌≤◌, max, List, [], ◌∷◌, length, get_or}
use Rattle.std.proofs.Common.{set, bit_and, bit_or, w64, sym, ◌∙◌, inl, inr, arith, get_or-set_same, get_or-set_other}
use Rattle.std.specs.Int.{bit_at, bit_not, trailing_zeros}
use Rattle.std.proofs.lemmas.Bool.{cases_eq, cases_lt}
use Rattle.std.proofs.lemmas.Nat.{shr-shr}
use Rattle.std.proofs.lemmas.Nat.Bits.{bit_at-zero, bit_at_or, bit_at-trailing_zeros, bit_at_set_same, bit_at_set_other}
use Rattle.std.proofs.lemmas.Nat.Bits.{bit_at_clear_same, bit_at_clear_other, bit_at_ones, bit_at_above}
use Rattle.coap_server_engine.specs.Prelude.{bit_of, IsOutside}

module _ (words : List ℕ) (at word : ℕ) (within : at / 64 < length words) where
  set_same : bit_of (set words (at / 64) word) at ≡ bit_at word (at % 64)
  set_same = rw (get_or-set_same words (at / 64) word 0 within)

  -- A word that keeps its other bits keeps the bit of each other index.
  set_other : ((k : ℕ) → k < 64 → k ≢ at % 64 → bit_at word k ≡ bit_at (get_or words (at / 64) 0) k) → (i : ℕ) → i ≢ at
      → bit_of (set words (at / 64) word) i ≡ bit_of words i
  set_other kept i differs = elim (cases_eq (i / 64) (at / 64)) [
    | inl same ↦ rw (same, get_or-set_same words (at / 64) word 0 within) (kept (i % 64) (omega arith)
        (λ bit. differs (omega arith)))
    | inr apart ↦ rw (get_or-set_other words (at / 64) (i / 64) word 0 apart)
  ]

module _ (words : List ℕ) (at : ℕ) (within : at / 64 < length words) where
  index : at % 64 < 64
  index = omega arith

  abbrev inserted : List ℕ
  inserted = set words (at / 64) (bit_or (get_or words (at / 64) 0) (1 * 2 ^ (at % 64) % 2 ^ 64))

  abbrev removed : List ℕ
  removed = set words (at / 64) (bit_and (get_or words (at / 64) 0) (bit_not w64 (1 * 2 ^ (at % 64) % 2 ^ 64)))

  pub inserted_same : bit_of inserted at ≡ 1
  inserted_same = set_same words at _ within ∙ bit_at_set_same w64 _ (at % 64) index

  pub inserted_other : (i : ℕ) → i ≢ at → bit_of inserted i ≡ bit_of words i
  inserted_other = set_other words at _ within (λ k below differs. bit_at_set_other w64 _
      (at % 64) index k differs)

  pub removed_same : bit_of removed at ≡ 0
  removed_same = set_same words at _ within ∙ bit_at_clear_same w64 _ (at % 64) index

  pub removed_other : (i : ℕ) → i ≢ at → bit_of removed i ≡ bit_of words i
  removed_other = set_other words at _ within (λ k below differs. bit_at_clear_other w64 _
      (at % 64) index k below differs)

-- No bit of four words of zeros is set.
pub none_set : (i : ℕ) → bit_of (0 ∷ 0 ∷ 0 ∷ 0 ∷ []) i ≡ 0
none_set i = rw (each (i / 64)) (bit_at-zero (i % 64))
  where
    each : (k : ℕ) → let words : List ℕ = 0 ∷ 0 ∷ 0 ∷ 0 ∷ [] in get_or words k 0 ≡ 0
    each k = grind arith

module _ (xs ys : List ℕ) where
  abbrev joined_at : ℕ → ℕ
  joined_at k = bit_or (get_or xs k 0) (get_or ys k 0)

  abbrev joined : List ℕ
  joined = joined_at 0 ∷ joined_at 1 ∷ joined_at 2 ∷ joined_at 3 ∷ []

  word_joined : (k : ℕ) → k < 4 → get_or joined k 0 ≡ joined_at k
  word_joined k small = grind arith

  bit_joined : (i : ℕ) → i < 256 → bit_of joined i ≡ max (bit_of xs i) (bit_of ys i)
  bit_joined i small =
      rw (word_joined (i / 64) (omega arith)) (bit_at_or (get_or xs (i / 64) 0) (get_or ys (i / 64) 0) (i % 64))

  pub joined_outside : (i : ℕ) → IsOutside joined i → IsOutside xs i × IsOutside ys i
  joined_outside i outside =
      let most = bit_joined i outside.within in (
        record { within = outside.within; bit = omega (arith, outside.bit) },
        record { within = outside.within; bit = omega (arith, outside.bit) },
      )

  pub outside_joined : (i : ℕ) → IsOutside xs i → IsOutside ys i → IsOutside joined i
  outside_joined i one other =
      record { within = one.within; bit = omega (arith, bit_joined i one.within, one.bit, other.bit) }

-- Each bit of four words of ones is set.
pub all_set : (i : ℕ) → i < 256 → bit_of (18446744073709551615 ∷ 18446744073709551615 ∷ 18446744073709551615 ∷
    18446744073709551615 ∷ []) i ≡ 1
all_set i within = rw (each (i / 64) (omega arith)) (bit_at_ones 64 (i % 64) (omega arith))
  where
    each : (k : ℕ) → k < 4 → get_or (18446744073709551615 ∷ 18446744073709551615 ∷ 18446744073709551615 ∷
        18446744073709551615 ∷ []) k 0 ≡ 2 ^ 64 - 1
    each k small = grind arith

-- ---- the next index

-- The bits of a word without its lowest ones.
shifted : (word low k : ℕ) → bit_at (word / 2 ^ low) k ≡ bit_at word (low + k)
shifted word low k = rw (shr-shr word low k)

-- The indices of word `k` from bit `low` on.
module _ (words : List ℕ) (k low : ℕ) (small : k < 4) (inside : low < 64) where
  abbrev left : ℕ
  left = get_or words k 0 / 2 ^ low

  bit_left : (i : ℕ) → k * 64 + low ≤ i → i / 64 ≡ k → bit_of words i ≡ bit_at left (i - (k * 64 + low))
  bit_left i after word =
      let bit : i % 64 ≡ low + (i - (k * 64 + low)) = omega arith in
      rw (word, bit) (sym (shifted _ low (i - (k * 64 + low))))

  -- No bit is set.
  pub none_left : left ≡ 0 → (i : ℕ) → k * 64 + low ≤ i → i / 64 ≡ k → IsOutside words i
  none_left none i after word = record {
    within = omega arith;
    bit = bit_left i after word ∙ rw none (bit_at-zero (i - (k * 64 + low)));
  }

  module _ (fits : get_or words k 0 < 2 ^ 64) (some : 0 < left) where
    lowest : (trailing_zeros w64 left < 64) × (bit_at left (trailing_zeros w64 left) ≡ 1)
        × ((j : ℕ) → j < trailing_zeros w64 left → bit_at left j ≡ 0)
    lowest = bit_at-trailing_zeros w64 left some (omega arith)

    in_word : low + trailing_zeros w64 left < 64
    in_word = elim (cases_lt (low + trailing_zeros w64 left) 64) [
      | inl below ↦ below
      | inr above ↦ absurd (omega (
        arith,
        lowest.1,
        shifted (get_or words k 0) low (trailing_zeros w64 left),
        bit_at_above (get_or words k 0) 64 (low + trailing_zeros w64 left) fits above,
      ))
    ]

    pub first_between : (i : ℕ) → k * 64 + low ≤ i → i < k * 64 + low + trailing_zeros w64 left → IsOutside words i
    first_between i after before = record {
      within = omega (arith, in_word);
      bit = bit_left i after (omega (arith, in_word)) ∙ lowest.2 _ (omega arith);
    }

    pub first_found : bit_of words (k * 64 + low + trailing_zeros w64 left) ≡ 1
    first_found =
        let same : k * 64 + low + trailing_zeros w64 left - (k * 64 + low) ≡ trailing_zeros w64 left = omega arith in
        bit_left _ (omega arith) (omega (arith, in_word)) ∙ rw same lowest.1
