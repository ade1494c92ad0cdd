-- Printable text.
use Rattle.std.proofs.Common.{◌≡◌, ℕ, ◌+◌, ◌%◌, ◌<◌, ◌^◌, true, List, [], ◌∷◌, ◌++◌, take, zero, suc, refl, ◌∙◌, arith}
use Rattle.std.proofs.Common.{decimal}
use Rattle.std.specs.Str.{IsAscii}
use Rattle.std.specs.Prelude.{nat_le}
use Rattle.std.proofs.lemmas.Bool.{and_parts, and_from, leb-true}
use Rattle.std.proofs.lemmas.Bool.Decides.{nat_tests}
use Rattle.std.proofs.lemmas.Fmt.{decimal_by_steps}
use Rattle.std.proofs.lemmas.List.Folds.{list_all-append}
use Rattle.coap_print.specs.Texts.{is_printable, is_text}

-- A text and a text are a text.
pub text_of_both : (xs ys : List ℕ) → is_text xs ≡ true → is_text ys ≡ true → is_text (xs ++ ys) ≡ true
text_of_both xs ys p q = list_all-append is_printable xs ys ∙ and_from (is_text xs) (is_text ys) p q

-- The first bytes of a text are a text.
pub text_of_take : (n : ℕ) (xs : List ℕ) → is_text xs ≡ true → is_text (take n xs) ≡ true
text_of_take zero xs p = refl
text_of_take (suc n) [] p = refl
text_of_take (suc n) (x ∷ xs) p =
    let both = and_parts (is_printable x) (is_text xs) p in
    and_from (is_printable x) (is_text (take n xs)) both.0 (text_of_take n xs both.1)

-- A decimal digit is a text.
pub digit_is_text : (n : ℕ) → n < 10 → is_text ((48 + n) ∷ []) ≡ true
digit_is_text n small = grind (arith, nat_tests)

-- Decimal digits are a text.
pub decimal_is_text : (n : ℕ) → n < 2 ^ 64 → is_text (decimal n) ≡ true
decimal_is_text =
    decimal_by_steps (λ n ds. is_text ds ≡ true) digit_is_text
    (λ n ds big p. text_of_both ds ((48 + n % 10) ∷ []) p (digit_is_text (n % 10) (omega arith)))

-- A text is ASCII.
pub text_is_ascii : (xs : List ℕ) → is_text xs ≡ true → IsAscii xs
text_is_ascii [] p i = omega arith
text_is_ascii (x ∷ xs) p zero =
    let both = and_parts (is_printable x) (is_text xs) p in
    omega (arith, leb-true x 0x7e (and_parts (nat_le 0x20 x) (nat_le x 0x7e) both.0).1)
text_is_ascii (x ∷ xs) p (suc i) = text_is_ascii xs (and_parts (is_printable x) (is_text xs) p).1 i
