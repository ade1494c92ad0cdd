-- Escaped text has one meaning.
use Rattle.std.proofs.Common.{◌≡◌, ℕ, ◌/◌, ◌%◌, ◌<◌, true, false, List, [], ◌∷◌, ◌++◌, refl, sym, ap, ◌∙◌, inl, inr}
use Rattle.std.proofs.Common.{arith}
use Rattle.std.proofs.lemmas.Bool.{cases_Bool, cond-true, cond-false}
use Rattle.std.proofs.lemmas.Bool.Decides.{nat_tests}
use Rattle.std.specs.List.{AllByRecursion}
use Rattle.coap_wire.specs.Message.{IsByte}
use Rattle.coap_print.specs.Texts.{is_plain, hex_digit, escape_of, escaped_text}

-- A digit has one value.
digit_once : (m n : ℕ) → m < 16 → n < 16 → hex_digit m ≡ hex_digit n → m ≡ n
digit_once m n p q e = grind (arith, nat_tests)

-- The two halves of a byte are the byte.
halves_once : (x y : ℕ) → x / 16 ≡ y / 16 → x % 16 ≡ y % 16 → x ≡ y
halves_once x y p q = omega arith

plain : (x : ℕ) → is_plain x ≡ true → escape_of x ≡ x ∷ []
plain x p = cond-true (is_plain x) (x ∷ []) _ p

other : (x : ℕ) → is_plain x ≡ false → escape_of x ≡ 0x5c ∷ 0x78 ∷ hex_digit (x / 16) ∷ hex_digit (x % 16) ∷ []
other x p = cond-false (is_plain x) (x ∷ []) _ p

-- A backslash does not stand for itself.
no_backslash : (x : ℕ) → is_plain x ≡ true → x ≡ 0x5c → ⊥
no_backslash x p e = grind (arith, nat_tests)

-- The first byte of escaped text has one meaning.
first_once : (x y : ℕ) (xs ys : List ℕ) → x < 256 → y < 256
    → escape_of x ++ xs ≡ escape_of y ++ ys → (x ≡ y) × (xs ≡ ys)
first_once x y xs ys p q e = elim (cases_Bool (is_plain x)) [
  | inl a ↦ elim (cases_Bool (is_plain y)) [
    | inl b ↦
        let same : x ∷ xs ≡ y ∷ ys =
        sym (ap (λ (t : List ℕ). t ++ xs) (plain x a)) ∙ e ∙ ap (λ (t : List ℕ). t ++ ys) (plain y b) in (cc, cc)
    | inr b ↦
        let same : x ∷ xs ≡ 0x5c ∷ 0x78 ∷ hex_digit (y / 16) ∷ hex_digit (y % 16) ∷ ys =
        sym (ap (λ (t : List ℕ). t ++ xs) (plain x a)) ∙ e ∙ ap (λ (t : List ℕ). t ++ ys) (other y b) in
        absurd (no_backslash x a cc)
  ]
  | inr a ↦ elim (cases_Bool (is_plain y)) [
    | inl b ↦
        let same : 0x5c ∷ 0x78 ∷ hex_digit (x / 16) ∷ hex_digit (x % 16) ∷ xs ≡ y ∷ ys =
        sym (ap (λ (t : List ℕ). t ++ xs) (other x a)) ∙ e ∙ ap (λ (t : List ℕ). t ++ ys) (plain y b) in
        absurd (no_backslash y b cc)
    | inr b ↦
        let same : 0x5c ∷ 0x78 ∷ hex_digit (x / 16) ∷ hex_digit (x % 16) ∷ xs
        ≡ 0x5c ∷ 0x78 ∷ hex_digit (y / 16) ∷ hex_digit (y % 16) ∷ ys =
        sym (ap (λ (t : List ℕ). t ++ xs) (other x a)) ∙ e ∙ ap (λ (t : List ℕ). t ++ ys) (other y b) in
        let high : hex_digit (x / 16) ≡ hex_digit (y / 16) = cc in
        let low : hex_digit (x % 16) ≡ hex_digit (y % 16) = cc in (
          halves_once x y (digit_once (x / 16) (y / 16) (omega arith) (omega arith) high)
              (digit_once (x % 16) (y % 16) (omega arith) (omega arith) low),
          cc,
        )
  ]
]

-- Escaped text of at least one byte is not empty.
some_text : (x : ℕ) (xs : List ℕ) → [] ≡ escape_of x ++ xs → ⊥
some_text x xs e = elim (cases_Bool (is_plain x)) [
  | inl a ↦ let none : [] ≡ x ∷ xs = e ∙ ap (λ (t : List ℕ). t ++ xs) (plain x a) in cc
  | inr a ↦
      let none : [] ≡ 0x5c ∷ 0x78 ∷ hex_digit (x / 16) ∷ hex_digit (x % 16) ∷ xs =
      e ∙ ap (λ (t : List ℕ). t ++ xs) (other x a) in
      cc
]

-- No two lists of bytes have the same escaped text.
pub escaped_once : (xs ys : List ℕ) → AllByRecursion IsByte xs → AllByRecursion IsByte ys
    → escaped_text xs ≡ escaped_text ys → xs ≡ ys
escaped_once [] [] p q e = refl
escaped_once [] (y ∷ ys) p q e = absurd (some_text y (escaped_text ys) e)
escaped_once (x ∷ xs) [] p q e = absurd (some_text x (escaped_text xs) (sym e))
escaped_once (x ∷ xs) (y ∷ ys) p q e =
    let first = first_once x y (escaped_text xs) (escaped_text ys) p.0 q.0 e in
    let rest = escaped_once xs ys p.1 q.1 first.1 in
    ap (λ (z : ℕ). z ∷ xs) first.0 ∙ ap (λ (zs : List ℕ). y ∷ zs) rest
