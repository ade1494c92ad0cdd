-- Properties of requests that register an observer.
use Rattle.std.proofs.Common.{◌≡◌, inl, inr, ℕ, true, false, Option, Some, None, refl, ap, ◌∙◌, arith, rules}
use Rattle.coap_store.specs.Prelude.{◌⊎◌, Message, Path, is_path, Representation, StoreValue, time_path, is_observable}
use Rattle.coap_store.specs.Prelude.{kind_of_path, key_for, state_at, state_of, path_of, Answer, Response, watch_of}
use Rattle.coap_store.specs.Prelude.{watched, stored_under, answer_of, immediate_answer, MayObserve, ResourceKind, Time}
use Rattle.coap_store.specs.Prelude.{Async, Dynamic, is_get, number_of, removes_watch, is_async}
use Rattle.coap_store.specs.Answer.{is_number}
use Rattle.std.proofs.lemmas.Bool.{cond-true, and_parts, and_right, both_ways, eqb-true}
use Rattle.coap_wire.specs.Codes as code
use Rattle.coap_wire.specs.OptionNumbers as numbers
use Rattle.coap_store.specs.declared.plan.Watch.TheVariants as watch
use Rattle.coap_path.proofs.PathLemmas.{same_path_sound}
use Rattle.coap_store.proofs.AnswerLaws.{either, is_error, answer_holds, prompt_holds, key_is}
use Rattle.coap_store.proofs.ServingLaws.{no_error}
use Rattle.coap_store.proofs.TargetLemmas.{is_time}

-- ---- the observable resources

watched_place : (place : ResourceKind) (m : Message) → watch_of place m ≡ watch.Add → is_observable place ≡ true
watched_place place m e = grind arith

-- ---- resources can have their paths

time_only : (path : Path) → kind_of_path path ≡ Time → path ≡ time_path
unfolding kind_of_path
time_only path e = same_path_sound path time_path (grind arith)

time_key : (path : Path) → kind_of_path path ≡ Time → key_for path ≡ Some path
unfolding key_for
time_key path e = cond-true (is_path path) (Some path) None (ap is_path (time_only path e) ∙ is_time)

-- An observable resource that exists has a key.
observed_key : (s : StoreValue) (now : ℕ) (path : Path) (place : ResourceKind) (key : Option Path) (r : Representation)
    → kind_of_path path ≡ place → is_observable place ≡ true → key_for path ≡ key → state_at s now key place ≡ Some r
    → key_for path ≡ Some path
unfolding state_at
observed_key s now path Time key r place e is there = time_key path place
observed_key s now path Dynamic None r place e is there = absurd cc
observed_key s now path Dynamic (Some q) r place e is there = rw (← (key_is path q is).1) at is
observed_key s now path _ key r place e is there = absurd cc

-- ---- every answer

-- The answer also has no delay.
record IsWatched (s : StoreValue) (now : ℕ) (path : Path) (a : Answer) : Type 0 where
  at_once : a.hold ≡ None
  may : MayObserve s now path a

abbrev WatchesWell : StoreValue → ℕ → Path → Answer → Type 0
WatchesWell s now path a = a.watch ≡ watch.Add → IsWatched s now path a

-- The answers with the state of the path.
watches : (s : StoreValue) (now : ℕ) (path : Path) (m : Message) (representation : Representation) (r : Response)
    → state_of s now path ≡ Some representation → (r.code ≡ code.content) ⊎ (r.code ≡ code.valid)
    → WatchesWell s now path (watched (kind_of_path path) m r)
watches s now path m representation r there is e = grind (arith, watched_place, observed_key)

pub stored_unwatched : (key : Option Path) (state : Option Representation) (m : Message)
    → (stored_under key state m).watch ≡ watch.Nothing
stored_unwatched None state m = refl
stored_unwatched (Some path) None m = refl
stored_unwatched (Some path) (Some r) m = refl

watched_of : (s : StoreValue) (now : ℕ) (m : Message) → WatchesWell s now (path_of m) (answer_of s now m)
watched_of s now m =
    answer_holds (WatchesWell s now (path_of m)) s now m (search (rules, watches))

-- The answer has no delay.
pub watched_at_once : (s : StoreValue) (now : ℕ) (m : Message) → (answer_of s now m).watch ≡ watch.Add
    → (answer_of s now m).hold ≡ None
watched_at_once s now m e = (watched_of s now m e).at_once

pub watched_is_there : (s : StoreValue) (now : ℕ) (m : Message) → (answer_of s now m).watch ≡ watch.Add
    → MayObserve s now (path_of m) (answer_of s now m)
watched_is_there s now m e = (watched_of s now m e).may

pub promptly_watched_is_there : (s : StoreValue) (now : ℕ) (m : Message) → (immediate_answer s now m).watch ≡ watch.Add
    → MayObserve s now (path_of m) (immediate_answer s now m)
unfolding immediate_answer
promptly_watched_is_there s now m = grind (arith, prompt_holds, watched_is_there, watched_at_once)

-- ---- the requests that register an observer

is_zero : (given : Option ℕ) → is_number given 0 ≡ true → given ≡ Some 0
is_zero None e = absurd cc
is_zero (Some n) e = ap Some (eqb-true n 0 e)

watched_request : (place : ResourceKind) (m : Message) → watch_of place m ≡ watch.Add
    → number_of numbers.observe m ≡ Some 0
watched_request place m e = grind (arith, either, is_zero, and_parts)

pub requested_watch : (s : StoreValue) (now : ℕ) (m : Message) → (answer_of s now m).watch ≡ watch.Add
    → (is_get m ≡ true) × (number_of numbers.observe m ≡ Some 0)
requested_watch s now m =
    answer_holds (λ a. a.watch ≡ watch.Add → (is_get m ≡ true) × (number_of numbers.observe m ≡ Some 0)) s now m
    (search (rules, watched_request))

-- A request with Observe 0 removes no observer.
no_removal : (m : Message) → number_of numbers.observe m ≡ Some 0 → removes_watch m ≡ false
no_removal m zero = rw zero (and_right _ _ refl)

watch_added : (place : ResourceKind) (m : Message) → is_observable place ≡ true
    → number_of numbers.observe m ≡ Some 0 → watch_of place m ≡ watch.Add
watch_added place m can zero = rw (can, zero) refl

prompt_place : (place : ResourceKind) → is_async place ≡ true → is_observable place ≡ true → ⊥
prompt_place Async waits can = absurd cc
prompt_place _ waits can = absurd cc

-- The code is 2.05 or 2.03.
abbrev IsReport : ℕ → Type 0
IsReport c = (c ≡ code.content) ⊎ (c ≡ code.valid)

no_report : (c : ℕ) → is_error c ≡ true → IsReport c → ⊥
no_report c e (inl is) = no_error c code.content e (omega arith) is
no_report c e (inr is) = no_error c code.valid e (omega arith) is

pub added_watch : (s : StoreValue) (now : ℕ) (m : Message) → is_observable (kind_of_path (path_of m)) ≡ true
    → number_of numbers.observe m ≡ Some 0 → IsReport (answer_of s now m).response.code
    → (answer_of s now m).watch ≡ watch.Add
added_watch s now m can zero =
    let stays = no_removal m zero in
    let added = watch_added (kind_of_path (path_of m)) m can zero in
    let other = λ (waits : is_async (kind_of_path (path_of m)) ≡ true). prompt_place _ waits can in
    let left = both_ways (removes_watch m) stays in
    answer_holds (λ a. IsReport a.response.code → a.watch ≡ watch.Add) s now m
    (search (rules, arith, no_report, added, other, left))

pub ruleset what_is_watched_is_there_steps =
    (watched_is_there, promptly_watched_is_there, requested_watch, added_watch)
