-- Recognised options: the functions agree with the relations, and in an ordered list the option before is enough.
use Rattle.coap_wire.specs.Prelude.{All, IsTrue, ◌↔◌, unwrap_or, not, ◌&&◌, ◌==◌, CoapOption, AreOrdered}
use Rattle.coap_wire.specs.Prelude.{kind_of, IsFirstWithNumber, IsRecognised, is_first_with_number, has_kind}
use Rattle.coap_wire.specs.Prelude.{is_recognised, recognised_in, is_critical, first_critical_in, option_before}
use Rattle.coap_wire.specs.Prelude.{OptionKind, CheckedOptionValue, checked_given}
use Rattle.std.proofs.Common.{◌≡◌, ◌≢◌, ℕ, ◌≤◌, List, [], ◌∷◌, ◌++◌, true, cond, Option, Some, None, refl, ap}
use Rattle.std.proofs.Common.{arith, inl, inr}
use Rattle.std.proofs.lemmas.Bool.{cases_Bool, eqb-false, ne_eqb, not-true}
use Rattle.std.proofs.lemmas.Bool.Decides.{nat_tests}
use Rattle.std.proofs.lemmas.List.Elements.{All-nil, All-push, All-weaker, All-contains, Contains-push, All-cons}
use Rattle.std.proofs.lemmas.List.Folds.{list_all-append}
use Rattle.std.proofs.lemmas.List.Sums.{AllPass-from_list_all, list_all-from_AllPass}

-- ---- the first with its number

-- In an ordered list, no option before p has a larger number than p, and the next option o has none smaller.
ordered_up_to : (base : ℕ) (earlier after : List CoapOption) (p o : CoapOption)
    → AreOrdered base (earlier ++ (p ∷ o ∷ after))
    → (base ≤ p.number) × (p.number ≤ o.number) × All (λ q. q.number ≤ p.number) earlier
ordered_up_to base [] after p o ordered = (ordered.0, ordered.1.0, All-nil (λ q. q.number ≤ p.number))
ordered_up_to base (q ∷ qs) after p o ordered =
    let rest = ordered_up_to q.number qs after p o ordered.1 in
    let first : base ≤ q.number = ordered.0 in
    let above : q.number ≤ p.number = rest.0 in
    (omega arith, rest.1, All-cons (λ r. r.number ≤ p.number) q qs above rest.2)

pub first_alone : (o : CoapOption) → IsFirstWithNumber [] o
first_alone o = All-nil (λ p. p.number ≢ o.number)

pub first_after : (earlier after : List CoapOption) (p o : CoapOption) → AreOrdered 0 (earlier ++ (p ∷ o ∷ after))
    → IsFirstWithNumber (earlier ++ p ∷ []) o ↔ (p.number ≢ o.number)
first_after earlier after p o ordered =
    let split = ordered_up_to 0 earlier after p o ordered in
    let order : p.number ≤ o.number = split.1 in (
      λ first. All-contains (λ q. q.number ≢ o.number) (earlier ++ p ∷ []) p first (Contains-push earlier p),
      λ differs. All-push (λ q. q.number ≢ o.number) earlier p (All-weaker (λ q. q.number ≤ p.number)
          (λ q. q.number ≢ o.number) (λ q below same. differs (omega arith)) earlier split.2) differs,
    )

-- ---- the functions and the relations

first_from_test : (before : List CoapOption) (o : CoapOption) → is_first_with_number before o ≡ true
    → IsFirstWithNumber before o
first_from_test before o test =
    All-weaker (λ p. not (p.number == o.number) ≡ true) (λ p. p.number ≢ o.number)
    (λ p differs. eqb-false p.number o.number (not-true (p.number == o.number) differs)) before
    (AllPass-from_list_all (λ p. not (p.number == o.number)) before test)

test_from_first : (before : List CoapOption) (o : CoapOption) → IsFirstWithNumber before o
    → is_first_with_number before o ≡ true
test_from_first before o first =
    list_all-from_AllPass (λ p. not (p.number == o.number)) before
    (All-weaker (λ p. p.number ≢ o.number) (λ p. not (p.number == o.number) ≡ true)
    (λ p differs. ap not (ne_eqb p.number o.number differs)) before first)

recognised_from_test : (before : List CoapOption) (o : CoapOption) (kind : Option OptionKind) → kind_of o.number ≡ kind
    → has_kind before o kind ≡ true → IsRecognised before o
recognised_from_test before o None is test = cc
recognised_from_test before o (Some kind) is test = record {
  kind = kind;
  is_in_table = is;
  at_least = grind (arith, nat_tests);
  at_most = grind (arith, nat_tests);
  first = λ once. first_from_test before o (grind (arith, nat_tests));
}

pub recognised_is_decided : (before : List CoapOption) (o : CoapOption)
    → IsTrue (is_recognised before o) ↔ IsRecognised before o
unfolding is_recognised
recognised_is_decided before o = (
  recognised_from_test before o (kind_of o.number) refl,
  λ r. elim (cases_Bool r.kind.repeatable) [
    | inl repeats ↦ rw r.is_in_table (grind (arith, nat_tests, r.at_least, r.at_most))
    | inr once ↦
        rw r.is_in_table (grind (arith, nat_tests, r.at_least, r.at_most, test_from_first before o (r.first once)))
  ],
)

-- ---- earlier options with the same effect

-- After either list, the same options with numbers from base on are the first with their number.
AgreeFrom : ℕ → List CoapOption → List CoapOption → Type 0
AgreeFrom base xs ys = (q : CoapOption) → base ≤ q.number → is_first_with_number xs q ≡ is_first_with_number ys q

agree_push : (base : ℕ) (xs ys : List CoapOption) (o : CoapOption) → AgreeFrom base xs ys → base ≤ o.number
    → AgreeFrom o.number (xs ++ o ∷ []) (ys ++ o ∷ [])
unfolding AgreeFrom
agree_push base xs ys o agree le q above =
    rw (list_all-append, list_all-append, agree q (omega arith)) refl

recognised_agrees : (xs ys : List CoapOption) (o : CoapOption) → is_first_with_number xs o ≡ is_first_with_number ys o
    → is_recognised xs o ≡ is_recognised ys o
unfolding is_recognised
recognised_agrees xs ys o same = go (kind_of o.number)
  where
    go : (kind : Option OptionKind) → has_kind xs o kind ≡ has_kind ys o kind
    go None = refl
    go (Some kind) = rw same refl

checked_agrees : (base : ℕ) (xs ys os : List CoapOption) → AreOrdered base os → AgreeFrom base xs ys
    → checked_given xs os ≡ checked_given ys os
unfolding checked_given AgreeFrom
checked_agrees base xs ys [] ordered agree = refl
checked_agrees base xs ys (o ∷ os) ordered agree =
    rw (
      recognised_agrees xs ys o (agree o ordered.0),
      checked_agrees o.number (xs ++ o ∷ []) (ys ++ o ∷ []) os ordered.1 (agree_push base xs ys o agree ordered.0),
    ) refl

-- A comparison with b makes one with a redundant, if a is at most b and the number q is not below b.
one_is_enough : (before : Option ℕ) (o : CoapOption) → unwrap_or before 0 ≤ o.number
    → AgreeFrom o.number (option_before before ++ o ∷ []) (option_before (Some o.number))
unfolding AgreeFrom
one_is_enough None o le q above = refl
one_is_enough (Some n) o le q above = grind (arith, nat_tests)

-- ---- the option before is enough

-- The first option of a list, and the others.
pub checked_turn : (before : Option ℕ) (o : CoapOption) (os : List CoapOption)
    → AreOrdered (unwrap_or before 0) (o ∷ os) → checked_given (option_before before) (o ∷ os)
    ≡ record { option = o; recognised = is_recognised (option_before before) o }
    ∷ checked_given (option_before (Some o.number)) os
unfolding checked_given
checked_turn before o os ordered =
    ap (λ cs. record { option = o; recognised = is_recognised (option_before before) o } ∷ cs)
    (checked_agrees o.number (option_before before ++ o ∷ []) (option_before (Some o.number)) os ordered.1
    (one_is_enough before o ordered.0))

pub checked_end : (earlier : List CoapOption) → checked_given earlier [] ≡ []
unfolding checked_given
checked_end earlier = refl

pub recognised_turn : (c : CheckedOptionValue) (cs : List CheckedOptionValue)
    → recognised_in (c ∷ cs) ≡ cond c.recognised (c.option ∷ recognised_in cs) (recognised_in cs)
unfolding recognised_in
recognised_turn c cs = elim (cases_Bool c.recognised) [ inl is ↦ rw is refl | inr not_so ↦ rw not_so refl ]

pub recognised_end : recognised_in [] ≡ []
unfolding recognised_in
recognised_end = refl

pub critical_turn : (c : CheckedOptionValue) (cs : List CheckedOptionValue)
    → first_critical_in (c ∷ cs)
    ≡ cond (is_critical c.option && not c.recognised) (Some c.option.number) (first_critical_in cs)
unfolding first_critical_in
critical_turn c cs =
    elim (cases_Bool (is_critical c.option && not c.recognised)) [
      | inl is ↦ rw is refl
      | inr not_so ↦ rw not_so refl
    ]

pub critical_end : first_critical_in [] ≡ None
unfolding first_critical_in
critical_end = refl

pub ruleset checked_turns = (checked_turn, checked_end)

pub ruleset option_turns = (nat_tests, recognised_turn, recognised_end, critical_turn, critical_end)
