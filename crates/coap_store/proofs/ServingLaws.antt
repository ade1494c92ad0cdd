-- The relation of requests and responses to the state of a path.
use Rattle.std.proofs.Common.{◌≡◌, ◌≢◌, inl, inr, ℕ, ◌+◌, ◌≤◌, Bool, true, false, List, [], ◌∷◌, ◌++◌, length, map}
use Rattle.std.proofs.Common.{rules, filter, Option, Some, None, refl, sym, ap, ◌∙◌, arith}
use Rattle.coap_store.specs.Prelude.{◌==◌, AllByRecursion, kind_of, is_recognised, checked_given, first_critical_in}
use Rattle.coap_store.specs.Prelude.{recognised_in, Message, CoapOption, Path, is_path, written_length, Representation}
use Rattle.coap_store.specs.Prelude.{StoreValue, found_in, kind_of_path, key_for, state_at, state_of, values_of}
use Rattle.coap_store.specs.Prelude.{value_of, has_option, number_of, match_holds, is_get, path_of, etag_of, Answer}
use Rattle.coap_store.specs.Prelude.{Change, Nothing, Put, Delete, put_of, etag_at, is_among, get_answer, method_answer}
use Rattle.coap_store.specs.Prelude.{resource_answer, answer_at, with_observe_rule, answer_of, changed, plain_get}
use Rattle.coap_store.specs.Prelude.{IsStoredCode, ReportsState, ReportsEtag, IsElsewhere, if◌then◌else◌, content_of}
use Rattle.coap_store.specs.Prelude.{put_by, each_at, ResourceKind, Async, Listing, Dynamic, is_async, same_bytes}
use Rattle.coap_store.specs.Prelude.{list_any, IsStore}
use lib.Pointwise.{bytes_decides}
use Rattle.std.specs.Prelude.{Contains}
use Rattle.std.proofs.lemmas.Bool.{leb-true, le-leb, both_ways, or_parts}
use Rattle.std.proofs.lemmas.Option.{same_Some, none-some}
use Rattle.std.proofs.lemmas.Map.Views.{Contains-from_any}
use Rattle.coap_wire.specs.Codes as code
use Rattle.coap_wire.specs.OptionNumbers as numbers
use Rattle.coap_path.proofs.PathLemmas.{path_fits}
use Rattle.coap_store.proofs.AnswerLaws.{is_error, answer_holds, key_is}
use Rattle.coap_store.proofs.StateLemmas.{state_stored, state_put, state_removed}
use Rattle.coap_store.proofs.ChangeLaws.{other_is_kept_on_put, other_is_kept_on_delete, put_is_stored, deleted_is_gone}
use Rattle.coap_store.proofs.StoreLemmas.{found_kept}
use Rattle.coap_store.proofs.ConditionLaws.{delete_succeeds}

-- ---- a GET changes nothing

pub get_keeps : (s : StoreValue) (now : ℕ) (m : Message) → is_get m ≡ true → (answer_of s now m).change ≡ Nothing
get_keeps s now m get = answer_holds (λ a. a.change ≡ Nothing) s now m (search rules)

-- ---- a response has the state

pub response_finally : (b : Bool) (a : Answer) → (with_observe_rule b a).response ≡ a.response
response_finally true a = refl
response_finally false a = refl

-- No error response has a code of class 2.
pub no_error : (c d : ℕ) → is_error c ≡ true → d ≤ 127 → c ≢ d
no_error c d e small = λ same. (let large = leb-true 128 c e in omega arith)

-- A representation whose ETag is in the request is that of a created resource.
stored_by_etag : (place : ResourceKind) (r : Representation) (values : List (List ℕ))
    → is_among (etag_at place r) values ≡ true → etag_at place r ≡ Some (etag_of r)
stored_by_etag Dynamic r values among = refl
stored_by_etag _ r values among = absurd cc

pub content_reports : (s : StoreValue) (now : ℕ) (m : Message) → (answer_of s now m).response.code ≡ code.content
    → ReportsState (kind_of_path (path_of m)) (state_of s now (path_of m)) (answer_of s now m).response
content_reports s now m =
    let place = kind_of_path (path_of m) in
    let state = state_of s now (path_of m) in
    answer_holds (λ a. a.response.code ≡ code.content → ReportsState place state a.response) s now m
    (search (rules, arith, no_error))

pub valid_reports : (s : StoreValue) (now : ℕ) (m : Message) → (answer_of s now m).response.code ≡ code.valid
    → ReportsEtag (state_of s now (path_of m)) (answer_of s now m).response
valid_reports s now m =
    let state = state_of s now (path_of m) in
    answer_holds (λ a. a.response.code ≡ code.valid → ReportsEtag state a.response) s now m
    (search (rules, arith, no_error, stored_by_etag))

-- ---- the ETags of a request

among_is : (place : ResourceKind) (r : Representation) (values : List (List ℕ)) (etag : List ℕ)
    → is_among (etag_at place r) values ≡ true → etag_at place r ≡ Some etag → Contains values etag
among_is Dynamic r values etag among is =
    Contains-from_any {eq = λ x y. same_bytes y x} (λ x y same. sym ((bytes_decides y x).0 same)) etag values
    (rw (same_Some _ _ is) at among)
among_is _ r values etag among is = absurd cc

-- No value is the ETag.
abbrev HaveOther : List (List ℕ) → List ℕ → Type 0
HaveOther values etag = AllByRecursion (λ value. value ≢ etag) values

all_other : (values : List (List ℕ)) (etag : List ℕ) → list_any (λ value. same_bytes value etag) values ≡ false
    → HaveOther values etag
all_other [] etag none = tt
all_other (v ∷ vs) etag none = grind (arith, or_parts, both_ways, bytes_decides, all_other vs etag)

none_is : (place : ResourceKind) (r : Representation) (values : List (List ℕ)) (etag : List ℕ)
    → is_among (etag_at place r) values ≡ false → etag_at place r ≡ Some etag → HaveOther values etag
none_is Dynamic r values etag none is = all_other values etag (rw (same_Some _ _ is) at none)
none_is _ r values etag none is = absurd cc

-- `/async` has no ETag.
late_unnamed : (place : ResourceKind) (r : Representation) (etag : List ℕ) → is_async place ≡ true
    → etag_at place r ≢ Some etag
late_unnamed Async r etag waits is = absurd cc
late_unnamed _ r etag waits is = absurd cc

pub valid_names : (s : StoreValue) (now : ℕ) (m : Message) (etag : List ℕ)
    → (answer_of s now m).response.code ≡ code.valid → (answer_of s now m).response.etag ≡ Some etag
    → Contains (values_of numbers.etag m) etag
valid_names s now m etag =
    answer_holds (λ a. a.response.code ≡ code.valid → a.response.etag ≡ Some etag
    → Contains (values_of numbers.etag m) etag) s now m (search (rules, arith, no_error, among_is))

pub content_is_new : (s : StoreValue) (now : ℕ) (m : Message) (etag : List ℕ)
    → (answer_of s now m).response.code ≡ code.content → (answer_of s now m).response.etag ≡ Some etag
    → HaveOther (values_of numbers.etag m) etag
content_is_new s now m etag =
    answer_holds (λ a. a.response.code ≡ code.content → a.response.etag ≡ Some etag
    → HaveOther (values_of numbers.etag m) etag) s now m (search (rules, arith, no_error, none_is, late_unnamed))

-- ---- a deleted path is absent

absent_found : (s : StoreValue) (now : ℕ) (path : Path) → IsStore s → state_of s now path ≡ None
    → found_in s.resources path ≡ None
absent_found s now path is absent = by (found_in s.resources path) refl
  where
    by : (found : Option Representation) → found_in s.resources path ≡ found → found_in s.resources path ≡ None
    by None e = e
    by (Some r) e =
        let kept = found_kept s path r is e in
        absurd (none-some r (sym absent ∙ (state_stored s now path kept.path kept.place ∙ e)))

pub deleted_is_absent : (s : StoreValue) (now : ℕ) (m : Message) → IsStore s
    → (answer_of s now m).response.code ≡ code.deleted
    → found_in (changed s (answer_of s now m).change).resources (path_of m) ≡ None
deleted_is_absent s now m is =
    let gone = deleted_is_gone s (path_of m) is.paths in
    answer_holds (λ a. a.response.code ≡ code.deleted
    → found_in (changed s a.change).resources (path_of m) ≡ None) s now m
    (search (rules, arith, no_error, absent_found, gone))

-- ---- other paths

stored_elsewhere : (s : StoreValue) (c : Change) (path : Path) → IsElsewhere path c
    → found_in (changed s c).resources path ≡ found_in s.resources path
stored_elsewhere s Nothing path apart = refl
stored_elsewhere s (Put at format bytes) path apart = other_is_kept_on_put s at path format bytes apart
stored_elsewhere s (Delete at) path apart = other_is_kept_on_delete s at path apart

place_elsewhere : (s : StoreValue) (c : Change) (now : ℕ) (path : Path) (key : Option Path) (place : ResourceKind)
    → key_for path ≡ key → place ≢ Listing → IsElsewhere path c
    → state_at (changed s c) now key place ≡ state_at s now key place
unfolding state_at
place_elsewhere s c now path key Listing is other apart = absurd (other refl)
place_elsewhere s c now path None Dynamic is other apart = refl
place_elsewhere s c now path (Some q) Dynamic is other apart =
    stored_elsewhere s c q (rw (key_is path q is).1 at apart)
place_elsewhere s c now path key _ is other apart = refl

pub state_elsewhere : (s : StoreValue) (c : Change) (now : ℕ) (path : Path) → kind_of_path path ≢ Listing
    → IsElsewhere path c → state_of (changed s c) now path ≡ state_of s now path
state_elsewhere s c now path other apart = place_elsewhere s c now path _ (kind_of_path path) refl other apart

-- A request changes only its own path.
pub others_stay : (s : StoreValue) (now later : ℕ) (m : Message) (other : Path) → kind_of_path other ≢ Listing
    → other ≢ path_of m → state_of (changed s (answer_of s now m).change) later other ≡ state_of s later other
others_stay s now later m other place apart =
    state_elsewhere s _ later other place (answer_holds (λ a. IsElsewhere other a.change) s now m (search rules))

-- ---- a GET with no option but Uri-Path

-- The segments fit in options.
abbrev HaveShortSegments : Path → Type 0
HaveShortSegments p = AllByRecursion (λ s. length s ≤ 255) p

short_within : (p : Path) → written_length p ≤ 255 → HaveShortSegments p
short_within [] fit = tt
short_within (s ∷ ss) fit = (omega arith, short_within ss (omega arith))

known_plain : (earlier : List CoapOption) (p : Path) → HaveShortSegments p
    → recognised_in (checked_given earlier (each_at numbers.uri_path p)) ≡ each_at numbers.uri_path p
unfolding checked_given recognised_in is_recognised kind_of
known_plain earlier [] short = refl
known_plain earlier (s ∷ ss) short =
    rw (le-leb 0 (length s) (omega arith), le-leb (length s) 255 short.0)
    (ap (λ os. record { number = numbers.uri_path; value = s } ∷ os)
    (known_plain (earlier ++ record { number = numbers.uri_path; value = s } ∷ []) ss short.1))

critical_plain : (earlier : List CoapOption) (p : Path) → HaveShortSegments p
    → first_critical_in (checked_given earlier (each_at numbers.uri_path p)) ≡ None
unfolding checked_given first_critical_in is_recognised kind_of
critical_plain earlier [] short = refl
critical_plain earlier (s ∷ ss) short =
    rw (le-leb 0 (length s) (omega arith), le-leb (length s) 255 short.0) (critical_plain _ ss short.1)

-- The Uri-Path options of a path have its segments as values, and no other options.
values_each : (number : ℕ) (p : Path) → map (λ (o : CoapOption). o.value)
    (filter (λ (o : CoapOption). o.number == number) (each_at numbers.uri_path p))
    ≡ (if numbers.uri_path == number then p else [])
values_each number [] = grind arith
values_each number (s ∷ ss) = grind (arith, values_each number ss)

values_plain : (token : List ℕ) (p : Path) (number : ℕ) → HaveShortSegments p
    → values_of number (plain_get token p) ≡ (if numbers.uri_path == number then p else [])
unfolding values_of
values_plain token p number short = rw (known_plain [] p short) (values_each number p)

absent_plain : (token : List ℕ) (p : Path) (number : ℕ) → HaveShortSegments p → (numbers.uri_path == number) ≡ false
    → has_option number (plain_get token p) ≡ false
unfolding has_option
absent_plain token p number short other = rw (values_plain token p number short, other)

no_number_plain : (token : List ℕ) (p : Path) (number : ℕ) → HaveShortSegments p → (numbers.uri_path == number) ≡ false
    → number_of number (plain_get token p) ≡ None
unfolding number_of value_of
no_number_plain token p number short other = rw (values_plain token p number short, other)

-- ---- a stored representation is returned

pub stored_is_served : (s : StoreValue) (now : ℕ) (token : List ℕ) (path : Path) (r : Representation)
    → is_path path ≡ true → kind_of_path path ≡ Dynamic → found_in s.resources path ≡ Some r
    → (answer_of s now (plain_get token path)).response ≡ content_of r
unfolding answer_of answer_at resource_answer method_answer match_holds get_answer
stored_is_served s now token path r is place found = grind (
  arith,
  short_within,
  path_fits,
  response_finally,
  critical_plain,
  absent_plain,
  values_plain,
  state_stored,
  no_number_plain,
)

-- ---- the representation that a request stores is returned

-- The answer stores the payload at the path of a created resource.
record Stores (path : Path) (m : Message) (a : Answer) : Type 0 where
  change : a.change ≡ put_of path m
  is : is_path path ≡ true
  place : kind_of_path path ≡ Dynamic

not_stored : (c : ℕ) → is_error c ≡ true → IsStoredCode c → ⊥
not_stored c e (inl same) = no_error c code.created e (omega arith) same
not_stored c e (inr same) = no_error c code.changed e (omega arith) same

stores_of : (s : StoreValue) (now : ℕ) (m : Message) → IsStoredCode (answer_of s now m).response.code
    → Stores (path_of m) m (answer_of s now m)
stores_of s now m =
    answer_holds (λ a. IsStoredCode a.response.code → Stores (path_of m) m a) s now m
    (search (rules, arith, not_stored))

pub put_is_served : (s : StoreValue) (now later : ℕ) (m : Message) (token : List ℕ)
    → IsStoredCode (answer_of s now m).response.code
    → (answer_of (changed s (answer_of s now m).change) later (plain_get token (path_of m))).response
    ≡ content_of (put_by m (s.versions + 1))
put_is_served s now later m token said =
    let stores = stores_of s now m said in
    let after = changed s (answer_of s now m).change in
    let found : found_in after.resources (path_of m) ≡ Some (put_by m (s.versions + 1)) =
    grind (arith, put_is_stored) in
    stored_is_served after later token (path_of m) (put_by m (s.versions + 1)) stores.is stores.place found

pub ruleset responses_report_state_steps = (content_reports, valid_reports, content_is_new)

pub ruleset what_is_deleted_is_gone_steps = (deleted_is_gone, deleted_is_absent, delete_succeeds)

pub ruleset what_is_put_is_the_state_steps = (state_elsewhere, state_put, state_removed)
