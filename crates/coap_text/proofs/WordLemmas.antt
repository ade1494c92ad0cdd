-- Parts between separators, and the numbers and bytes that words mean.
use Rattle.std.proofs.Common.{◌≡◌, ℕ, ◌+◌, ◌-◌, ◌≤◌, Bool, true, false, ◌&&◌, cond, ◌==◌, ltb, List, [], ◌∷◌, length}
use Rattle.std.proofs.Common.{take, drop, Option, Some, None, Result, Ok, Err, refl, sym, ap, ◌∙◌, arith, length-drop}
use Rattle.std.proofs.Common.{nat_le, MatchResult, IsUtf8, IsAscii}
use Rattle.std.proofs.lemmas.Bool.{and_parts, leb-true, ltb-true}
use Rattle.std.proofs.lemmas.Bool.Decides.{nat_tests}
use Rattle.std.proofs.lemmas.List.{take_all}
use Rattle.std.proofs.lemmas.List.Elements.{All-from_get_or}
use Rattle.std.proofs.lemmas.List.Splits.{slice_split_none, slice_split_first}
use Rattle.std.proofs.lemmas.List.Sums.{fails_before_first}
use Rattle.std.proofs.lemmas.Option.{cond_some}
use Rattle.std.proofs.lemmas.Str.{IsUtf8-from_ascii}
use Rattle.std.proofs.lemmas.Str.Ascii.{IsAscii-nil, IsAscii-cons}
use Rattle.std.proofs.lemmas.Str.Parse.{numerals_by_value, tells_all_ascii_digits, parse_digits}
use Rattle.std.specs.Borrow.{Bor}
use Rattle.std.specs.Char.{is_ascii_digit}
use Rattle.std.specs.List.{list_all, position_or_len}
use Rattle.std.specs.Result.{result_ok}
use Rattle.std.specs.Str.{all_ascii_digits}
use Rattle.std.specs.Str.Parse.{ParsesUnsigned}
use Rattle.hex.specs.Hex.{decode_of}
use Rattle.coap_text.specs.Words.{parts, decimal_value, hex_value}

-- ---- parts between separators

-- The result of `position`.
abbrev pub first_place : (ℕ → Bool) → List ℕ → Option ℕ
first_place p xs = cond (ltb (position_or_len p xs) (length xs)) (Some (position_or_len p xs)) None

pub one_part : (separator : ℕ) (bytes : List ℕ) → first_place (λ b. b == separator) bytes ≡ None
    → parts separator bytes ≡ bytes ∷ []
one_part separator bytes e =
    let p : ℕ → Bool = λ b. b == separator in
    let far : length bytes ≤ position_or_len p bytes = grind (arith) in
    slice_split_none p bytes
    (All-from_get_or (λ x. p x ≡ false) bytes 0 (λ k within. fails_before_first p bytes k 0 (omega arith)))

pub first_part : (separator : ℕ) (bytes : List ℕ) (at : ℕ) → first_place (λ b. b == separator) bytes ≡ Some at
    → parts separator bytes ≡ take at bytes ∷ parts separator (take (length bytes - (at + 1)) (drop (at + 1) bytes))
first_part separator bytes at e =
    let p : ℕ → Bool = λ b. b == separator in
    let found = cond_some _ _ _ e in
    let all : take (length bytes - (at + 1)) (drop (at + 1) bytes) ≡ drop (at + 1) bytes =
    take_all _ _ (omega (arith, length-drop (at + 1) bytes)) in
    rw all (rw found.1 at (slice_split_first p bytes 0 (ltb-true _ _ found.0)))

-- ---- numbers

-- Digits are UTF-8.

digits_are_ascii : (word : List ℕ) → list_all is_ascii_digit word ≡ true → IsAscii word
digits_are_ascii [] all = IsAscii-nil
digits_are_ascii (c ∷ cs) all =
    let both = and_parts (is_ascii_digit c) (list_all is_ascii_digit cs) all in
    IsAscii-cons c cs (omega (arith, leb-true c 57 (and_parts (nat_le 48 c) (nat_le c 57) both.0).1))
    (digits_are_ascii cs both.1)

pub text_read : {E : Type 0} (P : E → Type 0) (word : List ℕ) (r : Result (Bor (List ℕ)) E)
    → list_all is_ascii_digit word ≡ true
    → MatchResult r (λ s. (s.now ≡ word) × IsUtf8 word) (λ e. ¬ (IsUtf8 word) × P e)
    → (text : Bor (List ℕ)) × (result_ok r ≡ Some text) × (text.now ≡ word)
text_read P word (Ok s) all cases = (s, refl, cases.0)
text_read P word (Err e) all cases = absurd (cases.0 (IsUtf8-from_ascii word (digits_are_ascii word all)))

-- The number that digits mean.

digits_alike : (word : List ℕ) → list_all is_ascii_digit word ≡ all_ascii_digits word
digits_alike [] = refl
digits_alike (c ∷ cs) = ap (λ others. is_ascii_digit c && others) (digits_alike cs)

pub number_read : {E : Type 0} (word text : List ℕ) (r : Result ℕ E) → length word ≤ 20
    → list_all is_ascii_digit word ≡ true → text ≡ word → ParsesUnsigned 64 10 text r → result_ok r ≡ decimal_value word
unfolding decimal_value
number_read word text r few all same parsed =
    let own = numerals_by_value _ tells_all_ascii_digits in
    let is = parse_digits own 64 word r (rw same at parsed) (sym (digits_alike word) ∙ all) in
    grind (arith, nat_tests)

-- ---- bytes

pub hex_of_some : (word : List ℕ) → (length word ≡ 0 → ⊥) → hex_value word ≡ result_ok (decode_of word)
unfolding hex_value
hex_of_some word some = grind arith
