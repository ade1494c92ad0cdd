-- The lengths of heads, and the value after the head of an option.
use Rattle.std.proofs.Common.{◌≡◌, ℕ, ◌+◌, ◌-◌, ◌*◌, ◌≤◌, List, ◌∷◌, ◌++◌, length, ap, append_assoc, arith}
use Rattle.std.proofs.lemmas.List.{length-append}
use Rattle.std.proofs.lemmas.Grind.{common_steps}
use Rattle.std.proofs.lemmas.Bool.Decides.{nat_tests}
use Rattle.coap_wire.specs.Prelude.{CoapOption, option_form, option_head_spelling, option_spelling}
use Rattle.coap_wire.specs.Prelude.{length_form, greatest_token, head_spelling}

-- The nibble of an option delta, an option length or a token length has at most 2 extension bytes.
extension_bound : (n : ℕ) → length (option_form n).1 ≤ 2
extension_bound n = grind (arith, nat_tests, common_steps)

-- The nibble of a length has at most 4.
length_extension_bound : (n : ℕ) → length (length_form n).1 ≤ 4
length_extension_bound n = grind (arith, nat_tests, common_steps)

-- The head of an option has at most 5 bytes.
pub option_head_bound : (base number n : ℕ) → length (option_head_spelling base number n) ≤ 5
option_head_bound base number n =
    omega (
      arith,
      extension_bound (number - base),
      extension_bound n,
      length-append (option_form (number - base)).1 (option_form n).1,
    )

-- The value follows the head.
pub option_head_then_value : (base number : ℕ) (value : List ℕ)
    → option_head_spelling base number (length value) ++ value
    ≡ option_spelling base (record { number = number; value = value })
option_head_then_value base number value =
    ap (λ (s : List ℕ). (16 * (option_form (number - base)).0 + (option_form (length value)).0) ∷ s)
    (append_assoc (option_form (number - base)).1 (option_form (length value)).1 value)

-- An encoded option has at most 5 bytes besides its value.
pub option_size_bound : (base : ℕ) (o : CoapOption) → length (option_spelling base o) ≤ 5 + length o.value
option_size_bound base o =
    omega (
      arith,
      ap length (option_head_then_value base o.number o.value),
      option_head_bound base o.number (length o.value),
      length-append (option_head_spelling base o.number (length o.value)) o.value,
    )

-- The head of a message has at most 72 bytes.
pub head_bound : (code : ℕ) (token : List ℕ) (n : ℕ) → length token ≤ greatest_token
    → length (head_spelling code token n) ≤ 72
head_bound code token n fits =
    omega (
      arith,
      length_extension_bound n,
      extension_bound (length token),
      length-append (length_form n).1 (code ∷ ((option_form (length token)).1 ++ token)),
      length-append (option_form (length token)).1 token,
    )
