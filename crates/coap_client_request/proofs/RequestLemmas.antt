-- Lemmas on the options of a request.
use Rattle.std.proofs.Common.{◌≡◌, ℕ, zero, suc, ◌<◌, ◌≤◌, false, cond, ltb, List, [], ◌∷◌, ◌++◌, length, get_or, take}
use Rattle.std.proofs.Common.{drop, Vec, Option, Some, None, refl, arith}
use Rattle.coap_client_request.specs.Prelude.{unwrap_or, not, Bor, AllByRecursion, position_or_len, OptionRef}
use Rattle.coap_client_request.specs.Prelude.{CoapOption, AreOrdered, last_number, HasOptionForm, coap_option}
use Rattle.coap_client_request.specs.Prelude.{coap_options, payload_refusal, ExtrasValue, insert_option, is_long_option}
use Rattle.coap_client_request.specs.Prelude.{has_long_extra, is_too_long, BuildFault, IsRow, IsShort, byte_lists}
use Rattle.std.proofs.lemmas.Bool.{ltb-false}
use Rattle.std.proofs.lemmas.List.{map_push}
use Rattle.std.proofs.lemmas.List.Sums.{prefix_len-le-length}
use Rattle.std.proofs.lemmas.Bool.Decides.{nat_tests}
use Rattle.coap_wire.proofs.OptionLists.{last_number-push, ordered-push, forms-push}

-- ---- an option appended

pub row_pushed : (number : ℕ) (os : List OptionRef) (value : Bor (List ℕ)) → IsRow number (coap_options os)
    → number ≤ 65535 → length value.now ≤ 1034
    → IsRow number (coap_options (os ++ record { number = number; value = value } ∷ []))
row_pushed number os value row small short =
    let o : CoapOption = record { number = number; value = value.now } in
    rw (map_push coap_option os) (record {
      ordered = ordered-push 0 (coap_options os) o row.ordered row.last;
      last = omega (arith, last_number-push 0 (coap_options os) o);
      each = forms-push (coap_options os) o row.each (small, omega (arith, short));
    })

-- A part of a target is short.
pub short_part : {A : Type 0} (parts : List (Vec ℕ A)) (i : ℕ) (d : Vec ℕ A) → AllByRecursion IsShort (byte_lists parts)
    → i < length parts → length (get_or parts i d).items ≤ 255
short_part [] i d each within = absurd (omega arith)
short_part (part ∷ parts) zero d each within = each.0
short_part (part ∷ parts) (suc i) d each within = short_part parts i d each.1 (omega arith)

-- ---- an option inserted

-- The first position of an option with a larger number.
abbrev pub place_for : ℕ → List OptionRef → ℕ
place_for number os = position_or_len (λ o. ltb number o.number) os

pub inserted : (r : OptionRef) (os : List OptionRef) (place : ℕ) → place ≡ place_for r.number os
    → coap_options (take place os ++ r ∷ drop place os) ≡ insert_option (coap_option r) (coap_options os)
unfolding insert_option
inserted r [] place is = rw is refl
inserted r (o ∷ os) zero is = grind (arith, nat_tests)
inserted r (o ∷ os) (suc place) is = grind (arith, nat_tests, inserted r os place)

pub row_inserted : (base : ℕ) (x : CoapOption) (os : List CoapOption) → HasOptionForm x → base ≤ x.number
    → AreOrdered base os → last_number base os ≤ 65535 → AllByRecursion HasOptionForm os
    → AreOrdered base (insert_option x os) × (last_number base (insert_option x os) ≤ 65535)
    × AllByRecursion HasOptionForm (insert_option x os)
unfolding insert_option
row_inserted base x [] here above ordered last each = ((above, tt), here.0, (here, tt))
row_inserted base x (o ∷ os) here above ordered last each =
    grind (arith, nat_tests, ordered, each, row_inserted o.number x os here)

-- The position that the search found.
pub place_found : (number : ℕ) (os : List OptionRef) (found : Option ℕ) (place : ℕ)
    → found ≡ cond (ltb (place_for number os) (length os)) (Some (place_for number os)) None
    → place ≡ unwrap_or found (length os) → place ≡ place_for number os
place_found number os found place is answer =
    grind (arith, nat_tests, prefix_len-le-length (λ (o : OptionRef). not (ltb number o.number)) os)

-- ---- values that are not too long

-- The extra option and the payload of such extras.
pub record AreShort (e : ExtrasValue) : Type 0 where
  pub extra : has_long_extra e ≡ false
  pub payload : length e.payload ≤ 1048576

pub short_extras : (e : ExtrasValue) → is_too_long e ≡ false → AreShort e
unfolding is_too_long
short_extras e fits = record { extra = grind (arith, nat_tests); payload = grind (arith, nat_tests) }

pub short_extra : (e : ExtrasValue) (extra : CoapOption) → e.extra ≡ Some extra → has_long_extra e ≡ false
    → length extra.value ≤ 1034
unfolding has_long_extra
short_extra e extra is short = let fits : is_long_option (Some extra) ≡ false = cc in ltb-false 1034 _ fits

-- ---- the whole message

-- A payload that is not too long is accepted.
pub payload_taken : (payload : List ℕ) (why : BuildFault) → length payload ≤ 1048576
    → payload_refusal payload ≡ Some why → ⊥
payload_taken payload why fits refused = grind (arith, nat_tests)
