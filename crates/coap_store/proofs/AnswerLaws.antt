-- Properties of all answers.
use Rattle.std.proofs.Common.{◌≡◌, ℕ, ◌+◌, ◌<◌, ◌≤◌, ◌^◌, Bool, true, false, ◌&&◌, ◌||◌, [], length, Option, Some, None}
use Rattle.std.proofs.Common.{refl, ap, arith, rules, ⊎_elim}
use Rattle.std.proofs.lemmas.Bool.{leb-false, ltb-false, eqb-false, lt-ltb, cases_Bool, cond_both, not-false}
use Rattle.std.proofs.lemmas.Bool.{true_from_ne_false, both_ways, cond-true, cond-false}
use Rattle.std.proofs.lemmas.Option.{cond_some}
use Rattle.std.proofs.lemmas.Fmt.{length-decimal-le}
use Rattle.coap_store.specs.Prelude.{codes, is_some, is_none, nat_le, nat_lt, ◌==◌, not, decimal, Message}
use Rattle.coap_store.specs.Prelude.{first_critical, Path, is_path, Representation, StoreValue, found_in, is_dynamic}
use Rattle.coap_store.specs.Prelude.{is_async, kind_of_path, key_for, stored_at, state_at, state_of, RequestTarget}
use Rattle.coap_store.specs.Prelude.{target_of, listing, values_of, value_of, has_option, is_get, is_method, path_of}
use Rattle.coap_store.specs.Prelude.{preconditions_hold, is_good_query, Answer, Delete, only, says, stored, etag_at}
use Rattle.coap_store.specs.Prelude.{is_among, valid, content, watched, late, get_answer, greatest_version}
use Rattle.coap_store.specs.Prelude.{stored_under, too_large, store_answer, deletion, delete_answer, needs_resource}
use Rattle.coap_store.specs.Prelude.{read_answer, method_answer, resource_answer, answer_at, removes_watch}
use Rattle.coap_store.specs.Prelude.{with_observe_rule, answer_of, without_hold_if, without_hold, TakesPut, IsFoundAt}
use Rattle.coap_store.specs.Prelude.{IsChangeAt, IfSome, TakesChange, changes, ResourceKind, Root, Time, Async, Listing}
use Rattle.coap_store.specs.Prelude.{Dynamic, Drop}
use Rattle.coap_wire.specs.Codes as code
use Rattle.coap_wire.specs.OptionNumbers as numbers

-- ---- answers by cases

pub either : {A : Type 0} (b : Bool) → (b ≡ true → A) → (b ≡ false → A) → A
either b here there = ⊎_elim here there (cases_Bool b)

-- The code is of class 4 or 5.
abbrev pub is_error : ℕ → Bool
is_error c = nat_le 128 c

-- The property holds for each error response.
abbrev pub OfErrors : (Answer → Type 0) → Type 0
OfErrors P = (c : ℕ) → is_error c ≡ true → P (says (only c))

-- The property holds for each answer to a GET of a representation, after the earlier checks.
pub record OfKnownContents (P : Answer → Type 0) (place : ResourceKind) (r : Representation)
    (m : Message) : Type 0 where
  pub valid : is_among (etag_at place r) (values_of numbers.etag m) ≡ true → P (watched place m (valid place r))
  pub late : is_async place ≡ true → is_good_query (value_of numbers.uri_query m) ≡ true → P (late place r m)
  pub content : is_among (etag_at place r) (values_of numbers.etag m) ≡ false → P (watched place m (content place r))

pub known_get_cases : (P : Answer → Type 0) (place : ResourceKind) (r : Representation) (m : Message) → OfErrors P
    → OfKnownContents P place r m → P (get_answer place r m)
unfolding get_answer
known_get_cases P place r m errors contents =
    grind (arith, either, contents.valid, contents.late, not-false, contents.content)

-- The property holds for each answer to a GET of a representation.
pub record OfContents (P : Answer → Type 0) (place : ResourceKind) (r : Representation) (m : Message) : Type 0 where
  pub valid : is_among (etag_at place r) (values_of numbers.etag m) ≡ true → P (watched place m (valid place r))
  pub late : P (late place r m)
  pub content : P (watched place m (content place r))

pub get_cases : (P : Answer → Type 0) (place : ResourceKind) (r : Representation) (m : Message) → OfErrors P
    → OfContents P place r m → P (get_answer place r m)
get_cases P place r m errors contents =
    known_get_cases P place r m errors
    (grind arith)

-- No check rejects the representation.
pub record CanStore (s : StoreValue) (t : RequestTarget) (m : Message) : Type 0 where
  pub small : nat_lt s.rep_max (length m.payload) ≡ false
  pub room : (is_none t.state && nat_le s.dynamic_max (length s.resources)) ≡ false
  pub version_left : (s.versions == greatest_version) ≡ false

pub store_cases : (P : Answer → Type 0) (s : StoreValue) (t : RequestTarget) (m : Message) → OfErrors P
    → P (too_large s) → (CanStore s t m → P (stored_under t.key t.state m)) → P (store_answer s t m)
unfolding store_answer
store_cases P s t m errors large can = grind (arith, either)

-- The property holds for each answer of a method that is allowed.
pub record OfMethods (P : Answer → Type 0) (s : StoreValue) (t : RequestTarget) (m : Message) : Type 0 where
  pub read : (r : Representation) → t.state ≡ Some r → P (get_answer t.place r m)
  pub deleted : is_dynamic t.place ≡ true → is_get m ≡ false → P (delete_answer t)
  pub stored : is_dynamic t.place ≡ true → is_get m ≡ false → P (store_answer s t m)

-- The same, if the method is known to be GET or not.
record OfKnownMethods (P : Answer → Type 0) (s : StoreValue) (t : RequestTarget) (m : Message) : Type 0 where
  read : is_get m ≡ true → (r : Representation) → t.state ≡ Some r → P (get_answer t.place r m)
  deleted : is_dynamic t.place ≡ true → is_get m ≡ false → P (delete_answer t)
  stored : is_dynamic t.place ≡ true → is_get m ≡ false → P (store_answer s t m)

read_cases : (P : Answer → Type 0) (place : ResourceKind) (state : Option Representation) (m : Message) → OfErrors P
    → ((r : Representation) → state ≡ Some r → P (get_answer place r m)) → P (read_answer place state m)
read_cases P place None m errors read = errors code.not_found refl
read_cases P place (Some r) m errors read = read r refl

-- The request passes the checks before its method.
pub record PassesChecks (s : StoreValue) (t : RequestTarget) (m : Message) : Type 0 where
  pub options : is_some (first_critical m.options) ≡ false
  pub proxy : (has_option numbers.proxy_uri m || has_option numbers.proxy_scheme m) ≡ false
  pub method : not (is_method m) ≡ false
  pub present : (is_none t.state && needs_resource s m) ≡ false
  pub allowed : (not (is_dynamic t.place) && not (is_get m)) ≡ false
  pub conditions : not (preconditions_hold t.state m) ≡ false

-- The cases: an error of a check, and the answer of the method.
pub checked_cases : (P : Answer → Type 0) (s : StoreValue) (t : RequestTarget) (m : Message) → OfErrors P
    → (PassesChecks s t m → P (method_answer s t m)) → P (answer_at s t m)
unfolding answer_at resource_answer
checked_cases P s t m errors passed = grind (arith, either)

-- Methods other than GET are rejected for built-in resources, so another method has a created resource.
known_answer_cases : (P : Answer → Type 0) (s : StoreValue) (t : RequestTarget) (m : Message) → OfErrors P
    → OfKnownMethods P s t m → P (answer_at s t m)
unfolding method_answer
known_answer_cases P s t m errors methods =
    checked_cases P s t m errors (λ passes. grind (
      arith,
      cond_both,
      read_cases,
      methods.read,
      true_from_ne_false,
      both_ways,
      passes.allowed,
      methods.deleted,
      methods.stored,
    ))

pub answer_cases : (P : Answer → Type 0) (s : StoreValue) (t : RequestTarget) (m : Message) → OfErrors P
    → OfMethods P s t m → P (answer_at s t m)
answer_cases P s t m errors methods =
    known_answer_cases P s t m errors
    (grind arith)

-- ---- changes of an answer

-- The change stays the same.
pub change_without_hold : (hold : Option ℕ) (a : Answer) → (without_hold_if hold a).change ≡ a.change
change_without_hold None a = refl
change_without_hold (Some seconds) a = refl

pub change_finally : (b : Bool) (a : Answer) → (with_observe_rule b a).change ≡ a.change
change_finally true a = refl
change_finally false a = refl

-- ---- the path of a request

pub place_dynamic : (place : ResourceKind) → is_dynamic place ≡ true → place ≡ Dynamic
place_dynamic Dynamic e = refl
place_dynamic _ e = absurd cc

-- The key of a path is that path.
pub key_is : (path q : Path) → key_for path ≡ Some q → (is_path q ≡ true) × (path ≡ q)
unfolding key_for
key_is path q e =
    let k = cond_some (is_path path) path q e in
    (rw k.1 at k.0, k.1)

-- The state of a created resource is its stored representation.
pub state_dynamic : (s : StoreValue) (now : ℕ) (key : Option Path) (place : ResourceKind) → is_dynamic place ≡ true
    → state_at s now key place ≡ stored_at s key
unfolding state_at
state_dynamic s now key place dynamic = rw (place_dynamic place dynamic) refl

-- ---- the answer to a request

-- The request changes the created resource at its path, whose representation, if any, is `state`.
pub record IsOfStored (s : StoreValue) (now : ℕ) (m : Message) (state : Option Representation) : Type 0 where
  pub method : is_get m ≡ false
  pub is : is_path (path_of m) ≡ true
  pub place : kind_of_path (path_of m) ≡ Dynamic
  pub found : found_in s.resources (path_of m) ≡ state
  pub there : state_of s now (path_of m) ≡ state

-- The property holds for each answer, also if the request removes an observer.
pub record OfAnswers (P : Answer → Type 0) (s : StoreValue) (now : ℕ) (m : Message) : Type 0 where
  pub error : OfErrors P
  pub valid : (r : Representation) → is_get m ≡ true → state_of s now (path_of m) ≡ Some r
      → is_among (etag_at (kind_of_path (path_of m)) r) (values_of numbers.etag m) ≡ true
      → P (watched (kind_of_path (path_of m)) m (valid (kind_of_path (path_of m)) r))
  pub late : (r : Representation) → is_get m ≡ true → state_of s now (path_of m) ≡ Some r
      → is_async (kind_of_path (path_of m)) ≡ true → is_good_query (value_of numbers.uri_query m) ≡ true
      → P (late (kind_of_path (path_of m)) r m)
  pub content : (r : Representation) → is_get m ≡ true → state_of s now (path_of m) ≡ Some r
      → is_among (etag_at (kind_of_path (path_of m)) r) (values_of numbers.etag m) ≡ false
      → P (watched (kind_of_path (path_of m)) m (content (kind_of_path (path_of m)) r))
  pub absent : is_get m ≡ false → state_of s now (path_of m) ≡ None → P (says (only code.deleted))
  pub deleted : (r : Representation) → IsOfStored s now m (Some r)
      → P (record (says (only code.deleted)) { change = Delete (path_of m) })
  pub large : P (too_large s)
  pub created : IsOfStored s now m None → CanStore s (target_of s now (path_of m)) m → P (stored (path_of m) None m)
  pub replaced : (r : Representation) → IsOfStored s now m (Some r) → CanStore s (target_of s now (path_of m)) m
      → P (stored (path_of m) (Some r) m)
  pub dropped : removes_watch m ≡ true → (a : Answer) → P a → P (record a { watch = Drop })

-- The cases of the key and the representation of a created resource.
by_key : (s : StoreValue) (now : ℕ) (m : Message) (P : Option Path → Option Representation → Type 0)
    → is_dynamic (kind_of_path (path_of m)) ≡ true → is_get m ≡ false
    → (state_of s now (path_of m) ≡ None → P None None)
    → ((state : Option Representation) → IsOfStored s now m state → P (Some (path_of m)) state)
    → P (key_for (path_of m)) (state_of s now (path_of m))
unfolding key_for
by_key s now m P dynamic method none some = grind (arith, state_dynamic, either, cond-true, place_dynamic, cond-false)

pub final : (P : Answer → Type 0) (b : Bool) (a : Answer)
    → (b ≡ true → (a : Answer) → P a → P (record a { watch = Drop })) → P a → P (with_observe_rule b a)
final P true a dropped h = dropped refl a h
final P false a dropped h = h

pub answer_holds : (P : Answer → Type 0) (s : StoreValue) (now : ℕ) (m : Message) → OfAnswers P s now m
    → P (answer_of s now m)
unfolding answer_of
answer_holds P s now m of =
    let t = target_of s now (path_of m) in
    final P (removes_watch m) (answer_at s t m) of.dropped (known_answer_cases P s t m of.error (record {
      read = λ get r there. known_get_cases P t.place r m of.error
          (record { valid = of.valid r get there; late = of.late r get there; content = of.content r get there });
      deleted = λ dynamic method. by_key s now m
          (λ key state. P (record (says (only code.deleted)) { change = deletion key state })) dynamic method
          (of.absent method) (elim [ None ↦ λ is. of.absent method is.there | Some r ↦ of.deleted r ]);
      stored = λ dynamic method. store_cases P s t m of.error of.large (λ can. by_key s now m
          (λ key state. P (stored_under key state m)) dynamic method (λ _. of.error code.bad_request refl)
          (elim [ None ↦ λ is. of.created is can | Some r ↦ λ is. of.replaced r is can ]));
    }))

-- A full pending list changes only an answer with a delay.
pub prompt_holds : (P : Answer → Type 0) (a : Answer) → P a
    → ((seconds : ℕ) → a.hold ≡ Some seconds → P (record a { response = only code.service_unavailable; hold = None }))
    → P (without_hold a)
prompt_holds P a h late =
    elim a.hold as (λ hold. a.hold ≡ hold → P (without_hold_if hold a)) [ None ↦ λ _. h | Some seconds ↦ late seconds ]
    refl

-- ---- the store accepts the change of an answer

-- A version is left.
pub version_fits : (n : ℕ) → (n == greatest_version) ≡ false → n < 2 ^ 64 → n + 1 < 2 ^ 64
version_fits n other small = omega (arith, eqb-false n greatest_version other)

-- A present resource may be replaced, and an absent one may be created below the limit.
pub has_room : (state : Option Representation) (most n : ℕ) → (is_none state && nat_le most n) ≡ false
    → (is_some state || nat_lt n most) ≡ true
has_room None most n e = lt-ltb n most (leb-false most n e)
has_room (Some r) most n e = refl

-- The store accepts a representation that passed the checks.
put_taken : (s : StoreValue) (now : ℕ) (m : Message) (state : Option Representation) → s.versions < 2 ^ 64
    → IsOfStored s now m state → CanStore s (target_of s now (path_of m)) m → TakesPut s (path_of m) m.payload
put_taken s now m state small of can = grind (arith, ltb-false, has_room, version_fits, can.version_left)

pub taken_of : (s : StoreValue) (now : ℕ) (m : Message) → s.versions < 2 ^ 64 → TakesChange s (answer_of s now m).change
taken_of s now m small =
    answer_holds (λ a. TakesChange s a.change) s now m (search (rules, put_taken))

-- ---- a response with a change has no payload

pub bare_of : (s : StoreValue) (now : ℕ) (m : Message) → changes (answer_of s now m).change ≡ true
    → (answer_of s now m).response.payload ≡ []
bare_of s now m = answer_holds (λ a. changes a.change ≡ true → a.response.payload ≡ []) s now m (search rules)

-- An answer with a change has the code and the path of the response alone.
abbrev pub IsPlain : Answer → Type 0
IsPlain a = changes a.change ≡ true → a.response ≡ record (only a.response.code) { location = a.response.location }

pub plain_of : (s : StoreValue) (now : ℕ) (m : Message) → IsPlain (answer_of s now m)
plain_of s now m = answer_holds IsPlain s now m (search rules)

-- An answer without a change has no path.
pub located_of : (s : StoreValue) (now : ℕ) (m : Message) → changes (answer_of s now m).change ≡ false
    → (answer_of s now m).response.location ≡ []
located_of s now m = answer_holds (λ a. changes a.change ≡ false → a.response.location ≡ []) s now m (search rules)

-- ---- a change is at the path of its request

pub placed_of : (s : StoreValue) (now : ℕ) (m : Message) (index : Option ℕ)
    → IfSome index (λ i. IsFoundAt s.resources (path_of m) i)
    → IfSome index (λ i. IsChangeAt s (answer_of s now m).change i)
placed_of s now m None at = at
placed_of s now m (Some i) at = answer_holds (λ a. IsChangeAt s a.change i) s now m (search rules)

-- ---- the length of a payload

-- The listing and the stored representations are short.
pub record AreShort (s : StoreValue) : Type 0 where
  pub listing : length (listing s.applications s.resources) ≤ 1048576
  pub stored : (path : Path) (r : Representation) → found_in s.resources path ≡ Some r → length r.bytes ≤ 1048576

pub state_short : (s : StoreValue) (now : ℕ) (key : Option Path) (place : ResourceKind) (r : Representation)
    → AreShort s → now < 2 ^ 64 → state_at s now key place ≡ Some r → length r.bytes ≤ 1048576
unfolding state_at
state_short s now key Root r short small is =
    let bytes : codes "coap+tcp" ≡ r.bytes = cc in
    omega (arith, ap length bytes)
state_short s now key Time r short small is =
    let bytes : decimal now ≡ r.bytes = cc in
    omega (arith, length-decimal-le 20 now (omega arith) (omega arith) small, ap length bytes)
state_short s now key Async r short small is =
    let bytes : codes "done" ≡ r.bytes = cc in
    omega (arith, ap length bytes)
state_short s now key Listing r short small is =
    let bytes : listing s.applications s.resources ≡ r.bytes = cc in
    rw bytes at short.listing
state_short s now None Dynamic r short small is = absurd cc
state_short s now (Some path) Dynamic r short small is = short.stored path r is

pub short_of : (s : StoreValue) (now : ℕ) (m : Message) → length (listing s.applications s.resources) ≤ 1048576
    → ((path : Path) (r : Representation) → found_in s.resources path ≡ Some r → length r.bytes ≤ 1048576)
    → now < 2 ^ 64 → length (answer_of s now m).response.payload ≤ 1048576
short_of s now m listed each small =
    let read = λ (r : Representation) (is : state_of s now (path_of m) ≡ Some r). state_short s now
    (key_for (path_of m)) (kind_of_path (path_of m)) r (record { listing = listed; stored = each }) small is in
    answer_holds (λ a. length a.response.payload ≤ 1048576) s now m (search (rules, arith, read))
