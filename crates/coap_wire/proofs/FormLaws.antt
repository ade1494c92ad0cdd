-- The form of a number is its only one.
use Rattle.std.proofs.Common.{◌≡◌, ℕ, ◌-◌, ◌<◌, ◌≤◌, List, [], ◌∷◌, length, refl, arith, inl, inr}
use Rattle.std.proofs.lemmas.Bool.{cases_lt, lt-ltb, le-ltb}
use Rattle.std.proofs.lemmas.Bool.Decides.{nat_tests}
use Rattle.std.proofs.lemmas.Nat.{from_be_bytes-to_be_bytes_4}
use Rattle.coap_wire.specs.Prelude.{IsLengthForm, length_form, greatest_length, IsOptionForm, option_form}
use Rattle.coap_wire.specs.Prelude.{MAX_EXTENDED_LENGTH, extension_of, option_extension, greatest_token, IsTokenForm}
use Rattle.coap_wire.specs.Prelude.{token_form}

-- ---- the length of the options, the marker and the payload

-- `length_form` is a form of the length.
pub length_form_is : (n : ℕ) → n ≤ greatest_length → IsLengthForm (length_form n).0 (length_form n).1 n
length_form_is n fits =
    elim (cases_lt n 13) [
      | inl lt ↦ rw (lt-ltb n 13 lt) (lt, refl)
      | inr one ↦ elim (cases_lt n 269) [
        | inl lt ↦ rw (le-ltb n 13 one, lt-ltb n 269 lt) (refl, omega arith, omega arith)
        | inr two ↦ elim (cases_lt n 65805) [
          | inl lt ↦ rw (le-ltb n 13 one, le-ltb n 269 two, lt-ltb n 65805 lt) (
            refl,
            (omega arith, (omega arith, tt)),
            omega arith,
          )
          | inr four ↦ rw (le-ltb n 13 one, le-ltb n 269 two, le-ltb n 65805 four) (
            refl,
            (omega arith, (omega arith, (omega arith, (omega arith, tt)))),
            omega (arith, from_be_bytes-to_be_bytes_4 (n - 65805) (omega arith)),
          )
        ]
      ]
    ]

-- A length has no other form.
pub length_form_only : (x : ℕ) (e : List ℕ) (n : ℕ) → IsLengthForm x e n
    → (x ≡ (length_form n).0) × (e ≡ (length_form n).1)
length_form_only x [] n form = (grind (arith, nat_tests), grind (arith, nat_tests))
length_form_only x (a ∷ []) n form = (grind (arith, nat_tests), grind (arith, nat_tests))
length_form_only x (a ∷ b ∷ []) n form = (grind (arith, nat_tests), grind (arith, nat_tests))
length_form_only x (a ∷ b ∷ c ∷ []) n form = absurd form
length_form_only x (a ∷ b ∷ c ∷ d ∷ []) n form = (grind (arith, nat_tests), grind (arith, nat_tests))
length_form_only x (a ∷ b ∷ c ∷ d ∷ e ∷ es) n form = absurd form

-- The nibble of a length is below 16, the length is in range, and the nibble determines the number of extension bytes.
pub length_form_bound : (x : ℕ) (e : List ℕ) (n : ℕ) → IsLengthForm x e n
    → (x < 16) × (n ≤ greatest_length) × (length e ≡ extension_of x)
length_form_bound x [] n form = (omega arith, omega arith, grind (arith, nat_tests))
length_form_bound x (a ∷ []) n form = (omega arith, omega arith, grind (arith, nat_tests))
length_form_bound x (a ∷ b ∷ []) n form = (omega arith, omega arith, grind (arith, nat_tests))
length_form_bound x (a ∷ b ∷ c ∷ []) n form = absurd form
length_form_bound x (a ∷ b ∷ c ∷ d ∷ []) n form = (omega arith, omega arith, grind (arith, nat_tests))
length_form_bound x (a ∷ b ∷ c ∷ d ∷ e ∷ es) n form = absurd form

-- ---- an option delta or an option length

-- The form of an option delta or an option length is that of a length whose nibble is below 15.
pub option_form_bound : (x : ℕ) (e : List ℕ) (n : ℕ) → IsOptionForm x e n
    → (x < 15) × (n ≤ MAX_EXTENDED_LENGTH) × IsLengthForm x e n
option_form_bound x [] n form = (omega arith, omega arith, form)
option_form_bound x (a ∷ []) n form = (omega arith, omega arith, form)
option_form_bound x (a ∷ b ∷ []) n form = (omega arith, omega arith, form)
option_form_bound x (a ∷ b ∷ c ∷ es) n form = absurd form

pub option_form_of : (x : ℕ) (e : List ℕ) (n : ℕ) → x < 15 → IsLengthForm x e n → IsOptionForm x e n
option_form_of x [] n small form = form
option_form_of x (a ∷ []) n small form = form
option_form_of x (a ∷ b ∷ []) n small form = form
option_form_of x (a ∷ b ∷ c ∷ []) n small form = form
option_form_of x (a ∷ b ∷ c ∷ d ∷ []) n small form = absurd (omega arith)
option_form_of x (a ∷ b ∷ c ∷ d ∷ e ∷ es) n small form = form

same_form : (n : ℕ) → n ≤ MAX_EXTENDED_LENGTH → option_form n ≡ length_form n
same_form n fits = grind (arith, nat_tests)

-- `option_form` is a form of the option delta or the option length.
pub option_form_is : (n : ℕ) → n ≤ MAX_EXTENDED_LENGTH → IsOptionForm (option_form n).0 (option_form n).1 n
option_form_is n fits =
    rw (same_form n fits) (option_form_of _ _ n (grind (arith, nat_tests)) (length_form_is n (omega arith)))

-- An option delta or an option length has no other form.
pub option_form_only : (x : ℕ) (e : List ℕ) (n : ℕ) → IsOptionForm x e n
    → (x ≡ (option_form n).0) × (e ≡ (option_form n).1)
option_form_only x e n form =
    let k = option_form_bound x e n form in
    rw (same_form n k.1) (length_form_only x e n k.2)

-- The nibble of an option delta or an option length determines the number of extension bytes.
pub option_form_width : (x : ℕ) (e : List ℕ) (n : ℕ) → IsOptionForm x e n → length e ≡ option_extension x
option_form_width x e n form =
    let k = option_form_bound x e n form in
    grind (arith, nat_tests, (length_form_bound x e n k.2).2)

-- ---- a token length

-- A token length has exactly one form.
pub token_form_has : (n : ℕ) → n ≤ greatest_token → IsTokenForm (token_form n).0 (token_form n).1 n
token_form_has n small = (option_form_is n (omega arith), small)

pub token_form_only : (n x : ℕ) (e : List ℕ) → IsTokenForm x e n → (x ≡ (token_form n).0) × (e ≡ (token_form n).1)
token_form_only n x e form = option_form_only x e n form.0
