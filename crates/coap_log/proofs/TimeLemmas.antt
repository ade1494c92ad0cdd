-- The text of a time is printable.
use Rattle.std.proofs.Common.{◌≡◌, ℕ, zero, suc, ◌+◌, ◌/◌, ◌%◌, ◌^◌, ◌<◌, ◌≤◌, ◌==◌, min, Bool, true, false, [], ◌∷◌}
use Rattle.std.proofs.Common.{◌++◌, pos, negsuc, ℤ, Some, codes, if◌then◌else◌, arith, refl, sym, subst}
use Rattle.std.proofs.lemmas.Bool.Decides.{nat_tests}
use Rattle.std.proofs.lemmas.Nat.{div_below}
use Rattle.std.proofs.Math.Nat.{mod-lt}
use Rattle.jiff_core.proofs.SignedLemmas.{signed_arith}
use Rattle.jiff_core.specs.Calendar.{IsYear, days_in_month}
use Rattle.jiff_core.specs.declared.civil.datetime.DateTime.{DateTime}
use Rattle.jiff_core.specs.declared.civil.date.Date.{Date}
use Rattle.jiff_core.specs.declared.civil.time.Time.{Time}
use Rattle.jiff_fmt.specs.Text.{pad2, pad4, places, fraction, fraction_part, year_text, date_text, time_text}
use Rattle.jiff_fmt.specs.Text.{datetime_text}
use Rattle.jiff_fmt.proofs.ReaderLemmas.{tenth, ten_pow-pos}
use Rattle.jiff_fmt.proofs.TextLemmas.{tenth_place}
use Rattle.coap_print.specs.Texts.{is_text}
use Rattle.coap_print.proofs.TextLaws.{text_of_both, digit_is_text}

pair : (n : ℕ) → n < 100 → is_text (pad2 n) ≡ true
pair n small = grind (arith, nat_tests)

quad : (n : ℕ) → n < 10_000 → is_text (pad4 n) ≡ true
quad n small =
    text_of_both (pad2 (n / 100)) (pad2 (n % 100)) (pair (n / 100) (omega arith)) (pair (n % 100) (omega arith))

year : (y : ℤ) → IsYear y → is_text (year_text y) ≡ true
year (pos n) is = quad n (omega (arith, is.0, is.1, signed_arith))
year (negsuc n) is =
    text_of_both (codes "-00") (pad4 (suc n)) refl (quad (suc n) (omega (arith, is.0, is.1, signed_arith)))

month_days : (y : ℤ) (m : ℕ) → days_in_month y m < 100
month_days y m = grind (arith, nat_tests)

date : (d : Date) → is_text (date_text d) ≡ true
date d =
    text_of_both (year_text d.year ++ 45 ∷ [] ++ pad2 d.month ++ 45 ∷ []) (pad2 d.day)
    (text_of_both (year_text d.year ++ 45 ∷ [] ++ pad2 d.month) (45 ∷ [])
    (text_of_both (year_text d.year ++ 45 ∷ []) (pad2 d.month)
    (text_of_both (year_text d.year) (45 ∷ []) (year d.year d.year_in) refl)
    (pair d.month (omega (arith, d.month_in.1)))) refl)
    (pair d.day (omega (arith, d.day_in.1, month_days d.year d.month)))

-- The first k of j places.
digits : (k j n : ℕ) → k ≤ j → n < 10 ^ j → is_text (places k (10 ^ j) n) ≡ true
unfolding places
digits zero j n within small = refl
digits (suc k) zero n within small = absurd (omega arith)
digits (suc k) (suc j) n within small =
    let some = ten_pow-pos j in
    subst (λ w. is_text ((48 + n / w) ∷ places k w (n % w)) ≡ true) (sym (tenth_place (suc j) j refl))
    (text_of_both ((48 + n / 10 ^ j) ∷ []) (places k (10 ^ j) (n % 10 ^ j))
    (digit_is_text (n / 10 ^ j) (div_below n (10 ^ j) 10 some (omega (arith, small, tenth (suc j) j refl))))
    (digits k j (n % 10 ^ j) (omega arith) (mod-lt n some)))

part : (none : Bool) (k n : ℕ) → n < 1_000_000_000 → is_text (if none then [] else 46 ∷ fraction (Some k) n) ≡ true
part true k n small = refl
part false k n small =
    text_of_both (46 ∷ []) (fraction (Some k) n) refl (digits (min k 9) 9 n (omega arith) small)

time : (k : ℕ) (t : Time) → is_text (time_text (Some k) t) ≡ true
time k t =
    let after = fraction_part (Some k) t.subsec_nanosecond in
    text_of_both (pad2 t.hour) (58 ∷ pad2 t.minute ++ 58 ∷ pad2 t.second ++ after)
    (pair t.hour (omega (arith, t.hour_in)))
    (text_of_both (58 ∷ pad2 t.minute) (58 ∷ pad2 t.second ++ after)
    (pair t.minute (omega (arith, t.minute_in)))
    (text_of_both (58 ∷ pad2 t.second) after
    (pair t.second (omega (arith, t.second_in))) (part (k == 0) k t.subsec_nanosecond t.subsec_in)))

pub moment : (k : ℕ) (d : DateTime) → is_text (datetime_text false 84 (Some k) d) ≡ true
moment k d = text_of_both (date_text d.date) (84 ∷ time_text (Some k) d.time) (date d.date) (time k d.time)
