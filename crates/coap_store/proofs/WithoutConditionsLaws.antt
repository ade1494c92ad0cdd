-- A request and the same request without its conditions.
use Rattle.std.proofs.Common.{◌≡◌, ℕ, Bool, true, false, ◌&&◌, ◌||◌, ◌==◌, cond, not, List, [], ◌∷◌, ◌++◌, map, filter}
use Rattle.std.proofs.Common.{Option, Some, None, refl, ap, ◌∙◌, arith}
use Rattle.std.proofs.lemmas.Bool.{and_right, cond-false, false_from_ne_true, true_from_ne_false, leb-true}
use Rattle.std.proofs.lemmas.List.{append-nil}
use Rattle.std.proofs.lemmas.Option.{none-some}
use Rattle.std.proofs.lemmas.Bool.Decides.{nat_tests}
use Rattle.std.proofs.lemmas.List.Elements.{filter-append}
use Rattle.coap_wire.specs.Recognition.{is_first_with_number, has_kind}
use Rattle.coap_store.specs.Prelude.{is_recognised, checked_given, recognised_in, first_critical_in, CoapOption}
use Rattle.coap_store.specs.Prelude.{Message, OptionKind, kind_of, values_of, has_option, is_condition}
use Rattle.coap_store.specs.Prelude.{without_conditions, is_critical, first_critical, StoreValue, RequestTarget}
use Rattle.coap_store.specs.Prelude.{preconditions_hold, match_holds, number_of, value_of, answer_at, ResourceKind}
use Rattle.coap_store.specs.Prelude.{Representation, Path, read_answer, stored_under, resource_answer, method_answer}
use Rattle.coap_store.specs.Prelude.{get_answer, store_answer, says, only, answer_of, state_of, path_of, FailsCondition}
use Rattle.coap_wire.specs.Codes as code
use Rattle.coap_wire.specs.Codes.{class_of}
use Rattle.coap_wire.specs.OptionNumbers as numbers
use Rattle.coap_store.proofs.AnswerLaws.{either, checked_cases}
use Rattle.coap_store.proofs.ServingLaws.{response_finally}
use Rattle.coap_store.proofs.ConditionLaws.{conditions_fail, fails_condition, failed_only}
use Rattle.coap_store.proofs.RequestLemmas.{has_number}

-- ---- recognition does not depend on options with other numbers

abbrev is_kept : CoapOption → Bool
is_kept o = not (is_condition o)

abbrev kept : List CoapOption → List CoapOption
kept os = filter is_kept os

first_kept : (before : List CoapOption) (o : CoapOption) → is_condition o ≡ false
    → is_first_with_number (kept before) o ≡ is_first_with_number before o
first_kept [] o stays = refl
first_kept (p ∷ ps) o stays = grind (arith, nat_tests, first_kept ps o stays)

kind_kept : (before : List CoapOption) (o : CoapOption) (kind : Option OptionKind) → is_condition o ≡ false
    → has_kind (kept before) o kind ≡ has_kind before o kind
kind_kept before o None stays = refl
kind_kept before o (Some kind) stays = rw (first_kept before o stays) refl

recognised_kept : (before : List CoapOption) (o : CoapOption) → is_condition o ≡ false
    → is_recognised (kept before) o ≡ is_recognised before o
unfolding is_recognised
recognised_kept before o stays = kind_kept before o (kind_of o.number) stays

-- The kept options before the next option.
kept_more : (earlier : List CoapOption) (o : CoapOption) → is_condition o ≡ false
    → kept (earlier ++ o ∷ []) ≡ kept earlier ++ o ∷ []
kept_more earlier o stays = filter-append is_kept earlier (o ∷ []) ∙ rw stays refl

kept_same : (earlier : List CoapOption) (o : CoapOption) → is_condition o ≡ true
    → kept (earlier ++ o ∷ []) ≡ kept earlier
kept_same earlier o goes = filter-append is_kept earlier (o ∷ []) ∙ rw goes (append-nil _)

-- ---- the options with one number

-- The recognised options with this number, if the options in `earlier` come before them.
abbrev with_number : ℕ → List CoapOption → List CoapOption → List CoapOption
with_number number earlier os = filter (has_number number) (recognised_in (checked_given earlier os))

with_number_turn : (number : ℕ) (earlier : List CoapOption) (o : CoapOption) (os : List CoapOption)
    → with_number number earlier (o ∷ os)
    ≡ (let later = with_number number (earlier ++ o ∷ []) os in
    cond (is_recognised earlier o && has_number number o) (o ∷ later) later)
unfolding checked_given recognised_in
with_number_turn number earlier o os = grind arith

-- The number is that of a condition.
abbrev is_condition_number : ℕ → Bool
is_condition_number number = number == numbers.if_match || number == numbers.if_none_match

apart : (number : ℕ) (o : CoapOption) (b : Bool) → is_condition_number number ≡ b → is_condition o ≡ not b
    → has_number number o ≡ false
apart number o true is other = grind (arith, nat_tests)
apart number o false is other = grind (arith, nat_tests)

others_stay : (number : ℕ) (earlier os : List CoapOption) → is_condition_number number ≡ false
    → with_number number (kept earlier) (kept os) ≡ with_number number earlier os
unfolding checked_given
others_stay number earlier [] other = refl
others_stay number earlier (o ∷ os) other = grind (
  arith,
  with_number_turn,
  either,
  kept_same,
  cond-false,
  and_right,
  apart,
  recognised_kept,
  kept_more,
  others_stay number (earlier ++ o ∷ []) os other,
)

conditions_go : (number : ℕ) (earlier os : List CoapOption) → is_condition_number number ≡ true
    → with_number number earlier (kept os) ≡ []
unfolding checked_given recognised_in
conditions_go number earlier [] is = refl
conditions_go number earlier (o ∷ os) is = grind (
  arith,
  either,
  with_number_turn,
  cond-false,
  and_right,
  apart,
  conditions_go number earlier os is,
  conditions_go number (earlier ++ o ∷ []) os is,
)

-- ---- the critical options

abbrev critical_after : List CoapOption → List CoapOption → Option ℕ
critical_after earlier os = first_critical_in (checked_given earlier os)

critical_turn : (earlier : List CoapOption) (o : CoapOption) (os : List CoapOption)
    → critical_after earlier (o ∷ os)
    ≡ cond (is_critical o && not (is_recognised earlier o)) (Some o.number) (critical_after (earlier ++ o ∷ []) os)
unfolding checked_given first_critical_in
critical_turn earlier o os = grind arith

still_none : (earlier os : List CoapOption) → critical_after earlier os ≡ None
    → critical_after (kept earlier) (kept os) ≡ None
unfolding checked_given
still_none earlier [] none = none
still_none earlier (o ∷ os) none = grind (
  arith,
  critical_turn,
  false_from_ne_true,
  none-some,
  either,
  kept_same,
  recognised_kept,
  kept_more,
  still_none (earlier ++ o ∷ []) os,
)

-- ---- in a request

pub same_values : (number : ℕ) (m : Message) → is_condition_number number ≡ false
    → values_of number (without_conditions m) ≡ values_of number m
unfolding values_of
same_values number m other = ap (map (λ o. o.value)) (others_stay number [] m.options other)

pub no_values : (number : ℕ) (m : Message) → is_condition_number number ≡ true
    → values_of number (without_conditions m) ≡ []
unfolding values_of
no_values number m is = ap (map (λ o. o.value)) (conditions_go number [] m.options is)

-- ---- the answer

same_get : (place : ResourceKind) (r : Representation) (m : Message)
    → get_answer place r (without_conditions m) ≡ get_answer place r m
unfolding get_answer number_of value_of
same_get place r m = grind (arith, same_values)

same_read : (place : ResourceKind) (state : Option Representation) (m : Message)
    → read_answer place state (without_conditions m) ≡ read_answer place state m
same_read place None m = refl
same_read place (Some r) m = same_get place r m

same_stored : (key : Option Path) (state : Option Representation) (m : Message)
    → stored_under key state (without_conditions m) ≡ stored_under key state m
unfolding number_of value_of
same_stored None state m = refl
same_stored (Some path) None m = rw (same_values numbers.content_format m refl) refl
same_stored (Some path) (Some r) m = rw (same_values numbers.content_format m refl) refl

same_method : (s : StoreValue) (t : RequestTarget) (m : Message)
    → method_answer s t (without_conditions m) ≡ method_answer s t m
unfolding method_answer store_answer
same_method s t m = rw (same_read t.place t.state m, same_stored t.key t.state m) refl

-- A request whose conditions hold has the answer of the request without conditions.
same_answer_at : (s : StoreValue) (t : RequestTarget) (m : Message) → first_critical m.options ≡ None
    → preconditions_hold t.state m ≡ true → answer_at s t (without_conditions m) ≡ answer_at s t m
unfolding answer_at resource_answer has_option match_holds
same_answer_at s t m good holds =
    rw (
      still_none [] m.options good,
      good,
      same_values numbers.proxy_uri m refl,
      same_values numbers.proxy_scheme m refl,
      no_values numbers.if_match m refl,
      no_values numbers.if_none_match m refl,
      holds,
      same_method s t m,
    ) refl

pub met_conditions : (s : StoreValue) (now : ℕ) (m : Message) → first_critical m.options ≡ None
    → (FailsCondition (state_of s now (path_of m)) m → ⊥)
    → answer_of s now m ≡ answer_of s now (without_conditions m)
unfolding answer_of number_of value_of
met_conditions s now m good holds = grind (arith, true_from_ne_false, fails_condition, same_values, same_answer_at)

-- The answer is 4.12 if a condition fails and the request without conditions passes the other checks.
failed_at : (s : StoreValue) (t : RequestTarget) (m : Message) → first_critical m.options ≡ None
    → preconditions_hold t.state m ≡ false → class_of (answer_at s t (without_conditions m)).response.code ≡ 2
    → answer_at s t m ≡ says (only code.precondition_failed)
unfolding answer_at resource_answer has_option
failed_at s t m good fails = grind (arith, checked_cases, leb-true, same_values)

pub failed_condition : (s : StoreValue) (now : ℕ) (m : Message) → first_critical m.options ≡ None
    → FailsCondition (state_of s now (path_of m)) m
    → class_of (answer_of s now (without_conditions m)).response.code ≡ 2
    → (answer_of s now m).response ≡ only code.precondition_failed
unfolding answer_of
failed_condition s now m good fails is = grind (arith, response_finally, same_values, failed_at, conditions_fail)

pub ruleset condition_steps = (failed_only, met_conditions, failed_condition)
