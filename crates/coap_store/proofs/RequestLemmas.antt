-- The recognised options with one number, and their values.
use Rattle.std.proofs.Common.{◌≡◌, ℕ, ◌<◌, ◌≤◌, Bool, true, false, ◌&&◌, ◌||◌, ◌==◌, List, [], ◌∷◌, length, map, filter}
use Rattle.std.proofs.Common.{get_or, Option, Some, None, refl, sym, ap, ◌∙◌, arith}
use Rattle.coap_store.specs.Prelude.{option_map, nat_le, is_some, IfSome, then_some, list_any, list_all, CoapOption}
use Rattle.coap_store.specs.Prelude.{Message, once, kind_of, is_recognised, checked_given, recognised_in, known_options}
use Rattle.coap_store.specs.Prelude.{uint_of, bytes_of_uint, OptionKind, same_bytes, Representation, values_of}
use Rattle.coap_store.specs.Prelude.{has_option, value_of, number_of, is_given, first_or_none, match_holds, is_digit}
use Rattle.coap_store.specs.Prelude.{digits_mean, is_seconds}
use Rattle.std.proofs.lemmas.Bool.{and_parts, and_left, and_right, leb-true, le-leb, eqb-true}
use Rattle.std.proofs.lemmas.Bool.Decides.{nat_tests}
use Rattle.std.proofs.lemmas.Option.{same_Some}
use Rattle.std.proofs.lemmas.List.Folds.{list_all_at}
use Rattle.coap_wire.specs.OptionNumbers as numbers
use Rattle.coap_store.proofs.AnswerLaws.{either}
use Rattle.std.proofs.lemmas.Grind.{common_steps}

-- ---- in a list of options

abbrev pub has_number : ℕ → CoapOption → Bool
has_number number o = o.number == number

abbrev pub values_in : ℕ → List CoapOption → List (List ℕ)
values_in number os = map (λ o. o.value) (filter (has_number number) os)

any_in : (passes : List ℕ → Bool) (number : ℕ) (os : List CoapOption)
    → list_any (λ (o : CoapOption). has_number number o && passes o.value) os ≡ list_any passes (values_in number os)
any_in passes number [] = refl
any_in passes number (o ∷ os) = grind (arith, any_in passes number os)

-- ---- in a request

pub value_passes : (passes : List ℕ → Bool) (number : ℕ) (m : Message)
    → list_any (λ (o : CoapOption). has_number number o && passes o.value) (known_options m.options)
    ≡ list_any passes (values_of number m)
unfolding values_of
value_passes passes number m = any_in passes number (known_options m.options)

none_given_passes : (passes : List ℕ → Bool) (values : List (List ℕ)) → false ≡ is_given values
    → false ≡ list_any passes values
none_given_passes passes [] none = refl
none_given_passes passes (v ∷ vs) none = absurd cc

-- Without an option, no value passes the test.
pub none_passes : (passes : List ℕ → Bool) (number : ℕ) (m : Message) → false ≡ has_option number m
    → false ≡ list_any passes (values_of number m)
unfolding has_option
none_passes passes number m none = none_given_passes passes (values_of number m) none

-- ---- the length of a recognised option's value

recognised_fits : (before : List CoapOption) (o : CoapOption) (kind : OptionKind) → kind_of o.number ≡ Some kind
    → is_recognised before o ≡ true → length o.value ≤ kind.max
unfolding is_recognised
recognised_fits before o kind is test = grind (arith, leb-true, and_parts)

-- The first value with the number, among the recognised options of `os`.
abbrev first_given : ℕ → List CoapOption → List CoapOption → Option (List ℕ)
first_given number earlier os = first_or_none (values_in number (recognised_in (checked_given earlier os)))

given_fits : (number : ℕ) (kind : OptionKind) (earlier os : List CoapOption) (value : List ℕ)
    → kind_of number ≡ Some kind → first_given number earlier os ≡ Some value → length value ≤ kind.max
unfolding checked_given recognised_in
given_fits number kind earlier [] value is found =
    let bad : ◌≡◌ {A = Option (List ℕ)} None (Some value) = found in absurd cc
given_fits number kind earlier (o ∷ os) value is found =
    either (is_recognised earlier o) (λ known.
    either (has_number number o) (λ same.
    let its : o.value ≡ value = same_Some _ _ (rw (known, same) at found) in
    rw (← its) (recognised_fits earlier o kind (ap kind_of (eqb-true o.number number same) ∙ is) known))
    (λ other. given_fits number kind _ os value is (rw (known, other) at found)))
    (λ skipped. given_fits number kind _ os value is (rw skipped at found))

-- A value of a recognised option has at most the maximum length of its kind.
pub value_fits : (number : ℕ) (kind : OptionKind) (m : Message) (value : List ℕ) → kind_of number ≡ Some kind
    → Some value ≡ value_of number m → length value ≤ kind.max
unfolding value_of values_of
value_fits number kind m value is found = given_fits number kind [] m.options value is (sym found)

-- ---- numbers

pub no_number : (number : ℕ) (m : Message) → None ≡ value_of number m → None ≡ number_of number m
unfolding number_of
no_number number m none = ap (option_map uint_of) none

pub number_found : (number : ℕ) (m : Message) (value : List ℕ) → Some value ≡ value_of number m
    → Some (uint_of value) ≡ number_of number m
unfolding number_of
number_found number m value found = ap (option_map uint_of) found

-- A value of Observe has at most 3 bytes.
pub observe_fits : (m : Message) (value : List ℕ) → Some value ≡ value_of numbers.observe m → length value ≤ 4
unfolding kind_of
observe_fits m value found = let short = value_fits numbers.observe (once 0 3) m value refl found in omega arith

-- ---- preconditions

pub match_not_requested : (state : Option Representation) (m : Message) → false ≡ has_option numbers.if_match m
    → true ≡ match_holds state m
unfolding match_holds
match_not_requested state m absent = rw (← absent)

pub match_of_none : (state : Option Representation) (m : Message) → true ≡ has_option numbers.if_match m
    → None ≡ option_map (λ (r : Representation). r.version) state → false ≡ match_holds state m
unfolding match_holds
match_of_none None m requested is = rw (← requested)
match_of_none (Some r) m requested is = let bad : ◌≡◌ {A = Option ℕ} None (Some r.version) = is in absurd cc

-- A value of If-Match holds for a version with this ETag.
abbrev pub is_match : List ℕ → List ℕ → Bool
is_match etag value = length value == 0 || same_bytes value etag

pub match_of_version : (state : Option Representation) (m : Message) (version : ℕ) (etag : List ℕ)
    → true ≡ has_option numbers.if_match m → Some version ≡ option_map (λ (r : Representation). r.version) state
    → etag ≡ bytes_of_uint version
    → list_any (is_match etag) (values_of numbers.if_match m) ≡ match_holds state m
unfolding match_holds
match_of_version None m version etag requested is etag_is =
    let bad : ◌≡◌ {A = Option ℕ} (Some version) None = is in
    absurd cc
match_of_version (Some r) m version etag requested is etag_is =
    rw (← requested, etag_is, same_Some _ _ is)

-- ---- seconds

pub no_seconds_empty : (text : List ℕ) → length text ≡ 0 → false ≡ is_seconds text
unfolding is_seconds
no_seconds_empty text e = grind (arith, nat_tests)

pub no_seconds_long : (text : List ℕ) → 4 < length text → false ≡ is_seconds text
unfolding is_seconds
no_seconds_long text long = grind (arith, nat_tests)

pub no_seconds_at : (text : List ℕ) (i d : ℕ) → i < length text → is_digit (get_or text i d) ≡ false
    → false ≡ is_seconds text
unfolding is_seconds
no_seconds_at text i d lt other = sym (and_left _ _ (and_right _ _ (list_all_at is_digit text i d lt other)))

pub seconds_of_digits : (text : List ℕ) → 1 ≤ length text → length text ≤ 4 → list_all is_digit text ≡ true
    → nat_le (digits_mean text) 3600 ≡ is_seconds text
unfolding is_seconds
seconds_of_digits text some few digits = rw (le-leb 1 (length text) some, le-leb (length text) 4 few, digits) refl

pub is_some-then_some : (test : Bool) (n : ℕ) → is_some (then_some test n) ≡ test
is_some-then_some true n = refl
is_some-then_some false n = refl

pub if_then_some : (test : Bool) (n m : ℕ) → n ≡ m → IfSome (then_some test n) (λ k. k ≡ m)
if_then_some true n m e = e
if_then_some false n m e = tt

pub ruleset number_steps = (value_fits, no_number, number_found)

pub ruleset observe_steps = (observe_fits, no_number, number_found)

pub ruleset match_holds_steps = (value_passes, match_not_requested, match_of_none, match_of_version)

pub ruleset seconds_in_steps = (
  no_seconds_empty,
  no_seconds_long,
  no_seconds_at,
  seconds_of_digits,
  if_then_some,
  is_some-then_some,
  nat_tests,
  common_steps,
)
