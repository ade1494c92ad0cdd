-- Decoding a number with a given nibble returns the number if and only if the bytes after the nibble encode it.
use Rattle.std.proofs.Common.{◌≡◌, ℕ, suc, ◌+◌, ◌<◌, ◌≤◌, List, [], ◌∷◌, ◌++◌, length, drop, get_or, Option, Some, None}
use Rattle.std.proofs.Common.{refl, arith, ◌⊎◌, inl, inr}
use Rattle.std.proofs.lemmas.Bool.{cases_lt}
use Rattle.std.proofs.lemmas.Bool.Decides.{nat_tests}
use Rattle.std.proofs.lemmas.List.{get_or-drop, get_or-take, drop_more, length-append, take-append-le}
use Rattle.std.proofs.lemmas.List.{drop-append-le}
use Rattle.coap_wire.specs.Prelude.{AreBytes, IsLengthForm, extension_of, IsOptionForm, option_extension}
use Rattle.coap_wire.specs.Prelude.{one_byte_at, two_bytes_at, four_bytes_at, length_at, option_number_at}
use Rattle.coap_wire.proofs.FormLaws.{option_form_bound, option_form_of}

-- The list after its first n bytes has bytes only.
pub AreBytes-drop : (n : ℕ) (bytes : List ℕ) → AreBytes bytes → AreBytes (drop n bytes)
AreBytes-drop n bytes h i = rw get_or-drop (h (n + i))

-- The list after some of its bytes has bytes only.
pub AreBytes-tail : (front bytes : List ℕ) → AreBytes (front ++ bytes) → AreBytes bytes
AreBytes-tail [] bytes h = h
AreBytes-tail (b ∷ front) bytes h = AreBytes-tail front bytes (λ i. h (suc i))

-- There is a value or none: the extension is complete or not.
pub option_cases : {A : Type 0} (o : Option A) → ((x : A) × (o ≡ Some x)) ⊎ (o ≡ None)
option_cases (Some x) = inl (x, refl)
option_cases None = inr refl

pub none_or_some : {A : Type 0} (x : A) → ◌≡◌ {A = Option A} None (Some x) → ⊥
none_or_some x e = cc

-- ---- an encoded number is decoded

-- A nibble below 15 decodes an option delta or an option length as it decodes a length.
same_number : (x : ℕ) (s : List ℕ) → x < 15 → option_number_at x s ≡ length_at x s
unfolding option_number_at length_at
same_number x s small = grind (arith, nat_tests)

-- The encoding of a length is decoded to it.
pub length_again : (x : ℕ) (e : List ℕ) (n : ℕ) (s : List ℕ) → IsLengthForm x e n → length_at x (e ++ s) ≡ Some (n, s)
unfolding length_at one_byte_at two_bytes_at four_bytes_at
length_again x [] n s f = grind (arith, nat_tests)
length_again x (a ∷ []) n s f = grind (arith, nat_tests)
length_again x (a ∷ b ∷ []) n s f = grind (arith, nat_tests)
length_again x (a ∷ b ∷ c ∷ []) n s f = absurd f
length_again x (a ∷ b ∷ c ∷ d ∷ []) n s f = grind (arith, nat_tests)
length_again x (a ∷ b ∷ c ∷ d ∷ g ∷ es) n s f = absurd f

-- The encoding of an option delta or an option length is decoded to it.
pub option_number_again : (x : ℕ) (e : List ℕ) (n : ℕ) (s : List ℕ) → IsOptionForm x e n
    → option_number_at x (e ++ s) ≡ Some (n, s)
option_number_again x e n s f =
    let k = option_form_bound x e n f in
    rw (same_number x (e ++ s) k.0) (length_again x e n s k.2)

-- ---- a decoded number is encoded so

-- The first bytes of s have the form of the number y.0, and y.1 follows.
pub record TakesNumber (Form : List ℕ → ℕ → Type 0) (s : List ℕ) (y : ℕ × List ℕ) : Type 0 where
  pub extension : List ℕ
  pub form : Form extension y.0
  pub parts : s ≡ extension ++ y.1

-- The bytes of a decoded length encode it.
pub length_takes : (x : ℕ) (s : List ℕ) (y : ℕ × List ℕ) → AreBytes s → x < 16 → length_at x s ≡ Some y
    → TakesNumber (IsLengthForm x) s y
unfolding length_at one_byte_at two_bytes_at four_bytes_at
length_takes x [] y fits small e = record {
  extension = [];
  form = (grind (arith, nat_tests), grind (arith, nat_tests));
  parts = grind (arith, nat_tests);
}
length_takes x (a ∷ s) y fits small e =
    elim (cases_lt x 13) [
      | inl none ↦
          record { extension = []; form = (none, grind (arith, nat_tests)); parts = grind (arith, nat_tests) }
      | inr one ↦ elim (cases_lt 13 x) [
        | inr same ↦ record {
          extension = a ∷ [];
          form = (omega arith, fits 0, grind (arith, nat_tests));
          parts = grind (arith, nat_tests);
        }
        | inl two ↦ elim (cases_lt 14 x) [
          | inr same ↦ record {
            extension = a ∷ get_or s 0 0 ∷ [];
            form = (omega arith, (fits 0, (fits 1, tt)), grind (arith, nat_tests, get_or-take));
            parts = grind (arith, nat_tests, drop_more s 0 0);
          }
          | inl four ↦ record {
            extension = a ∷ get_or s 0 0 ∷ get_or s 1 0 ∷ get_or s 2 0 ∷ [];
            form =
                (omega arith, (fits 0, (fits 1, (fits 2, (fits 3, tt)))), grind (arith, nat_tests, get_or-take));
            parts = grind (arith, nat_tests, drop_more s 0 0, drop_more s 1 0, drop_more s 2 0);
          }
        ]
      ]
    ]

-- The bytes of a decoded option delta or option length encode it.
pub option_number_takes : (x : ℕ) (s : List ℕ) (y : ℕ × List ℕ) → AreBytes s → x < 15 → option_number_at x s ≡ Some y
    → TakesNumber (IsOptionForm x) s y
option_number_takes x s y fits small e =
    let k = length_takes x s y fits (omega arith) (rw (same_number x s small) at e) in
    record { extension = k.extension; form = option_form_of x k.extension y.0 small k.form; parts = k.parts }

-- ---- the bytes after an extension

-- The bytes after the extension of a length, which are present.
pub length_rest : (x : ℕ) (s : List ℕ) (y : ℕ × List ℕ) → length_at x s ≡ Some y
    → (extension_of x ≤ length s) × (y.1 ≡ drop (extension_of x) s)
unfolding length_at one_byte_at two_bytes_at four_bytes_at
length_rest x [] y e = (grind (arith, nat_tests), grind (arith, nat_tests))
length_rest x (b ∷ s) y e = (grind (arith, nat_tests), grind (arith, nat_tests))

-- The same for an option delta or an option length. A number with an extension is large.
pub option_number_rest : (x : ℕ) (s : List ℕ) (y : ℕ × List ℕ) → option_number_at x s ≡ Some y
    → (option_extension x ≤ length s) × (y.1 ≡ drop (option_extension x) s) × (option_extension x ≤ y.0)
unfolding option_number_at one_byte_at two_bytes_at
option_number_rest x [] y e = (grind (arith, nat_tests), grind (arith, nat_tests), grind (arith, nat_tests))
option_number_rest x (b ∷ s) y e = (grind (arith, nat_tests), grind (arith, nat_tests), grind (arith, nat_tests))

-- A decoded length stays the same when more bytes follow.
pub length_more : (x : ℕ) (s t : List ℕ) (y : ℕ × List ℕ) → length_at x s ≡ Some y
    → length_at x (s ++ t) ≡ Some (y.0, y.1 ++ t)
unfolding length_at one_byte_at two_bytes_at four_bytes_at
length_more x [] t y e = grind (arith, nat_tests)
length_more x (b ∷ s) t y e = grind (arith, nat_tests, length-append, take-append-le, drop-append-le)

-- A decoded option number stays the same when more bytes follow.
pub option_number_more : (x : ℕ) (s t : List ℕ) (y : ℕ × List ℕ) → option_number_at x s ≡ Some y
    → option_number_at x (s ++ t) ≡ Some (y.0, y.1 ++ t)
unfolding option_number_at one_byte_at two_bytes_at
option_number_more x [] t y e = grind (arith, nat_tests)
option_number_more x (b ∷ s) t y e = grind (arith, nat_tests, length-append, take-append-le, drop-append-le)

-- If no length is decoded, its extension is incomplete.
pub length_short : (x : ℕ) (s : List ℕ) → length_at x s ≡ None → length s < extension_of x
unfolding length_at one_byte_at two_bytes_at four_bytes_at
length_short x [] e = grind (arith, nat_tests)
length_short x (b ∷ s) e = grind (arith, nat_tests)

-- If no option number is decoded, there are too few bytes.
pub option_number_short : (x : ℕ) (s : List ℕ) → option_number_at x s ≡ None → length s < option_extension x
unfolding option_number_at one_byte_at two_bytes_at
option_number_short x [] e = grind (arith, nat_tests)
option_number_short x (b ∷ s) e = grind (arith, nat_tests)
