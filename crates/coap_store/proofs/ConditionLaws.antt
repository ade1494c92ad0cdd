-- The checks of a request before its method: the critical options, and the conditions.
use Rattle.std.proofs.Common.{◌≡◌, ◌≢◌, inl, inr, ℕ, Bool, true, false, ◌==◌, not, List, [], ◌∷◌, Option, Some, None}
use Rattle.std.proofs.Common.{refl, arith, rules}
use Rattle.std.proofs.lemmas.Bool.{both_ways, cond_both, false_from_ne_true, true_from_ne_false, leb-true, eqb-true}
use Rattle.std.proofs.lemmas.Bool.{and_right, and_parts, and_cases, or_parts, or_from, not-false, not_from_false}
use Rattle.std.proofs.lemmas.Bool.{eq-eqb, not-true}
use Rattle.std.proofs.lemmas.List.{nil_from_length}
use lib.Pointwise.{bytes_decides}
use Rattle.coap_store.specs.Prelude.{AllByRecursion, list_any, is_some, Message, first_critical, Path, Representation}
use Rattle.coap_store.specs.Prelude.{StoreValue, state_of, target_of, RequestTarget, has_option, path_of, etag_of}
use Rattle.coap_store.specs.Prelude.{match_holds, preconditions_hold, Answer, Nothing, only, answer_of, answer_at}
use Rattle.coap_store.specs.Prelude.{resource_answer, method_answer, get_answer, read_answer, store_answer}
use Rattle.coap_store.specs.Prelude.{stored_under, removes_watch, is_get, is_delete, is_none, passes_checks}
use Rattle.coap_store.specs.Prelude.{kind_of_path, Dynamic, FailsIfMatch, FailsIfNoneMatch, FailsCondition, IsRejection}
use Rattle.coap_store.specs.Prelude.{ResourceKind}
use Rattle.coap_store.specs.Requests.{matches, none_match_holds}
use Rattle.coap_store.specs.Answer.{first_of, when}
use Rattle.coap_wire.specs.Codes as code
use Rattle.coap_wire.specs.OptionNumbers as numbers
use Rattle.coap_store.proofs.AnswerLaws.{checked_cases, final}

-- ---- the meaning of the conditions

value_fails : (r : Representation) (value : List ℕ) → value ≢ [] → value ≢ etag_of r → matches r value ≡ false
value_fails r value filled other = grind (arith, or_from, false_from_ne_true, nil_from_length, eqb-true, bytes_decides)

value_differs : (r : Representation) (value : List ℕ) → matches r value ≡ false
    → (value ≢ []) × (value ≢ etag_of r)
value_differs r value fails = grind (arith, or_parts, both_ways, bytes_decides)

-- No value is empty or the ETag of the representation.
abbrev AllDiffer : Representation → List (List ℕ) → Type 0
AllDiffer r values = AllByRecursion (λ value. (value ≢ []) × (value ≢ etag_of r)) values

values_fail : (r : Representation) (values : List (List ℕ)) → AllDiffer r values → list_any (matches r) values ≡ false
values_fail r [] all = refl
values_fail r (v ∷ vs) all = or_from (matches r v) _ (value_fails r v all.0.0 all.0.1) (values_fail r vs all.1)

values_differ : (r : Representation) (values : List (List ℕ)) → list_any (matches r) values ≡ false
    → AllDiffer r values
values_differ r [] fails = tt
values_differ r (v ∷ vs) fails =
    let parts = or_parts (matches r v) _ fails in (value_differs r v parts.0, values_differ r vs parts.1)

match_fails : (state : Option Representation) (m : Message) → FailsIfMatch state m → match_holds state m ≡ false
unfolding match_holds
match_fails None m fails = rw fails.given refl
match_fails (Some r) m fails = rw (fails.given, values_fail r _ fails.other) refl

fails_match : (state : Option Representation) (m : Message) → match_holds state m ≡ false → FailsIfMatch state m
unfolding match_holds
fails_match None m fails =
    record { given = not-false _ (or_parts (not (has_option numbers.if_match m)) _ fails).0; other = tt }
fails_match (Some r) m fails = grind (arith, or_parts, not-false, values_differ)

none_match_fails : (state : Option Representation) (m : Message) → FailsIfNoneMatch state m
    → none_match_holds state m ≡ false
none_match_fails None m fails = let there = fails.present in absurd cc
none_match_fails (Some r) m fails = rw fails.given refl

fails_none_match : (state : Option Representation) (m : Message) → none_match_holds state m ≡ false
    → FailsIfNoneMatch state m
fails_none_match None m fails =
    absurd (grind (arith, both_ways, not_from_false, and_right))
fails_none_match (Some r) m fails =
    record { given = (and_parts (has_option numbers.if_none_match m) _ (not-false _ fails)).0; present = refl }

pub conditions_fail : (state : Option Representation) (m : Message) → FailsCondition state m
    → preconditions_hold state m ≡ false
conditions_fail state m (inl fails) = rw (match_fails state m fails) refl
conditions_fail state m (inr fails) = and_right _ _ (none_match_fails state m fails)

pub fails_condition : (state : Option Representation) (m : Message) → preconditions_hold state m ≡ false
    → FailsCondition state m
fails_condition state m fails = grind (arith, fails_match, fails_none_match, and_cases)

-- ---- a failed check rejects the request

pub bad_option_rejected : (s : StoreValue) (now : ℕ) (m : Message) → is_some (first_critical m.options) ≡ true
    → ((answer_of s now m).response ≡ only code.bad_option) × ((answer_of s now m).change ≡ Nothing)
unfolding answer_of answer_at
bad_option_rejected s now m bad = grind (arith, final)

pub condition_rejected : (s : StoreValue) (now : ℕ) (m : Message) → FailsCondition (state_of s now (path_of m)) m
    → IsRejection (answer_of s now m)
unfolding answer_of
condition_rejected s now m fails =
    let t = target_of s now (path_of m) in
    let no = conditions_fail t.state m fails in
    final IsRejection (removes_watch m) (answer_at s t m)
    (λ _ a is. grind arith)
    (checked_cases IsRejection s t m (λ c large. record {
      error = omega (arith, leb-true 128 c large);
      quiet = refl;
      unwatched = λ e. absurd cc;
    }) (λ passes. absurd (both_ways _ passes.conditions (rw no refl))))

-- ---- only a failed check has its code

module _ (P : Answer → Type 0) where
  -- The property holds for the first answer of these checks, if it holds for the first check and for the later ones.
  one_check : (b : Bool) (a : Answer) (checks : List (Option Answer)) (last : Answer) → P a
      → P (first_of checks last) → P (first_of (when b a ∷ checks) last)
  one_check true a checks last here later = here
  one_check false a checks last here later = later

-- The code is neither 4.02 nor 4.12.
record IsOfMethod (a : Answer) : Type 0 where
  no_option : (a.response.code == code.bad_option) ≡ false
  no_condition : (a.response.code == code.precondition_failed) ≡ false

get_code : (place : ResourceKind) (r : Representation) (m : Message) → IsOfMethod (get_answer place r m)
unfolding get_answer
get_code place r m = search (rules, one_check IsOfMethod)

read_code : (place : ResourceKind) (state : Option Representation) (m : Message)
    → IsOfMethod (read_answer place state m)
read_code place None m = search rules
read_code place (Some r) m = get_code place r m

stored_code : (key : Option Path) (state : Option Representation) (m : Message)
    → IsOfMethod (stored_under key state m)
stored_code None state m = search rules
stored_code (Some path) None m = search rules
stored_code (Some path) (Some r) m = search rules

store_code : (s : StoreValue) (t : RequestTarget) (m : Message) → IsOfMethod (store_answer s t m)
unfolding store_answer
store_code s t m = search (rules, one_check IsOfMethod, stored_code)

method_code : (s : StoreValue) (t : RequestTarget) (m : Message) → IsOfMethod (method_answer s t m)
unfolding method_answer
method_code s t m =
    cond_both (is_get m) _ _ IsOfMethod (λ _. read_code t.place t.state m)
    (λ _. cond_both (is_delete m) _ _ IsOfMethod (λ _. search rules) (λ _. store_code s t m))

-- The code is another one.
record IsNot (c : ℕ) (a : Answer) : Type 0 where
  other : (a.response.code == c) ≡ false

other_than_bad_option : (s : StoreValue) (t : RequestTarget) (m : Message) → is_some (first_critical m.options) ≡ false
    → IsNot code.bad_option (answer_at s t m)
unfolding answer_at resource_answer
other_than_bad_option s t m none = grind (arith, method_code, one_check)

other_than_failed : (s : StoreValue) (t : RequestTarget) (m : Message) → preconditions_hold t.state m ≡ true
    → IsNot code.precondition_failed (answer_at s t m)
unfolding answer_at resource_answer
other_than_failed s t m holds =
    let method : IsNot code.precondition_failed (method_answer s t m) =
    record { other = (method_code s t m).no_condition } in
    rw holds (search (rules, one_check (IsNot code.precondition_failed), method))

pub bad_option_only : (s : StoreValue) (now : ℕ) (m : Message) → (answer_of s now m).response.code ≡ code.bad_option
    → is_some (first_critical m.options) ≡ true
unfolding answer_of
bad_option_only s now m is =
    let t = target_of s now (path_of m) in
    true_from_ne_false _ (λ none. (let other = final (IsNot code.bad_option) (removes_watch m) (answer_at s t m)
    (λ _ a h. record { other = h.other }) (other_than_bad_option s t m none) in
    both_ways _ other.other (eq-eqb _ _ is)))

pub failed_only : (s : StoreValue) (now : ℕ) (m : Message)
    → (answer_of s now m).response.code ≡ code.precondition_failed → FailsCondition (state_of s now (path_of m)) m
unfolding answer_of
failed_only s now m is =
    let t = target_of s now (path_of m) in
    fails_condition t.state m (false_from_ne_true _ (λ holds.
    (let other = final (IsNot code.precondition_failed) (removes_watch m) (answer_at s t m)
    (λ _ a h. record { other = h.other }) (other_than_failed s t m holds) in
    both_ways _ other.other (eq-eqb _ _ is))))

-- ---- a request that passes all checks

no_bad_option : (number : Option ℕ) → is_none number ≡ true → is_some number ≡ false
no_bad_option None none = refl
no_bad_option (Some n) none = absurd cc

-- A DELETE that passes the checks gets 2.02.
deleted_at : (s : StoreValue) (t : RequestTarget) (m : Message) → is_delete m ≡ true → passes_checks m ≡ true
    → t.place ≡ Dynamic → preconditions_hold t.state m ≡ true → (answer_at s t m).response ≡ only code.deleted
unfolding answer_at resource_answer method_answer
deleted_at s t m is passes place holds = grind (arith, eqb-true, and_parts, no_bad_option, not-true, and_right)

pub delete_succeeds : (s : StoreValue) (now : ℕ) (m : Message) → is_delete m ≡ true → passes_checks m ≡ true
    → kind_of_path (path_of m) ≡ Dynamic → (FailsCondition (state_of s now (path_of m)) m → ⊥)
    → (answer_of s now m).response ≡ only code.deleted
unfolding answer_of
delete_succeeds s now m is passes place holds = grind (arith, true_from_ne_false, fails_condition, final, deleted_at)

pub ruleset critical_steps = (bad_option_rejected, bad_option_only)
