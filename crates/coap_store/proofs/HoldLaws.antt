-- Properties of a delayed response, and of an answer with a full pending list.
use Rattle.std.proofs.Common.{◌≡◌, ◌≢◌, ℕ, ◌≤◌, true, List, Option, Some, None, ap, arith, rules}
use Rattle.std.proofs.lemmas.Bool.{and_parts, leb-true}
use Rattle.std.proofs.lemmas.Option.{same_Some}
use Rattle.coap_store.specs.Prelude.{Message, Path, Representation, StoreValue, is_async, state_at, digits_mean}
use Rattle.coap_store.specs.Prelude.{is_seconds, is_good_query, seconds_of, Answer, Nothing, only, content}
use Rattle.coap_store.specs.Prelude.{delayed_response, is_delayed, answer_of, without_hold_if, immediate_answer}
use Rattle.coap_store.specs.Prelude.{ResourceKind, Async, Add}
use Rattle.coap_wire.specs.Codes as code
use Rattle.coap_store.proofs.AnswerLaws.{answer_holds, change_without_hold}
use Rattle.coap_store.proofs.WatchLaws.{watched_at_once}

-- ---- the answers with a delay, and their response

seconds_fit : (query : Option (List ℕ)) → is_good_query query ≡ true → seconds_of query ≤ 3600
unfolding is_seconds
seconds_fit None good = omega arith
seconds_fit (Some bytes) good = leb-true (digits_mean bytes) 3600 (and_parts _ _ good).1

-- The state of `/async` is always the same.
late_content : (s : StoreValue) (now : ℕ) (key : Option Path) (place : ResourceKind) (r : Representation)
    → is_async place ≡ true → state_at s now key place ≡ Some r → content place r ≡ delayed_response
unfolding state_at
late_content s now key Async r waits is = cc
late_content s now key _ r waits is = absurd cc

pub record IsDelayed (m : Message) (a : Answer) (seconds : ℕ) : Type 0 where
  pub requested : is_delayed m ≡ true
  pub response : a.response ≡ delayed_response
  pub change : a.change ≡ Nothing
  pub short : seconds ≤ 3600

pub delay_of_answer : (s : StoreValue) (now : ℕ) (m : Message) (seconds : ℕ) → (answer_of s now m).hold ≡ Some seconds
    → IsDelayed m (answer_of s now m) seconds
delay_of_answer s now m seconds =
    answer_holds (λ a. a.hold ≡ Some seconds → IsDelayed m a seconds) s now m
    (search (rules, late_content, seconds_fit, same_Some))

-- Such a request registers no observer.
pub delayed_unwatched : (s : StoreValue) (now : ℕ) (m : Message) (seconds : ℕ) → (answer_of s now m).hold ≡ Some seconds
    → (answer_of s now m).watch ≢ Add
delayed_unwatched s now m seconds e = λ adds. (let none = watched_at_once s now m adds in absurd cc)

-- ---- a full pending list

pub refused_for_now : (s : StoreValue) (now : ℕ) (m : Message) (seconds : ℕ) → (answer_of s now m).hold ≡ Some seconds
    → (immediate_answer s now m).response ≡ only code.service_unavailable
unfolding immediate_answer
refused_for_now s now m seconds e = ap (λ hold. (without_hold_if hold (answer_of s now m)).response) e

pub same_change : (s : StoreValue) (now : ℕ) (m : Message)
    → (immediate_answer s now m).change ≡ (answer_of s now m).change
unfolding immediate_answer
same_change s now m = change_without_hold (answer_of s now m).hold (answer_of s now m)

pub same_at_once : (s : StoreValue) (now : ℕ) (m : Message) → (answer_of s now m).hold ≡ None
    → immediate_answer s now m ≡ answer_of s now m
unfolding immediate_answer
same_at_once s now m e = ap (λ hold. without_hold_if hold (answer_of s now m)) e

pub ruleset delayed_response_is_constant_steps =
    (delay_of_answer, delayed_unwatched, refused_for_now, same_change, same_at_once)
