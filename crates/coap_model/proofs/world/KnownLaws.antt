-- Known facts of an observer: the state that it was sent last is a state that its path had.
use Rattle.std.proofs.Common.{List, None, Option, Some, ap, arith, false, inl, inr, refl, rules, sym, true, ℕ, ◌<◌, ◌∙◌}
use Rattle.std.proofs.Common.{◌≡◌, ◌≤◌, ◌⊎◌}
use Rattle.std.proofs.lemmas.Bool.{and_parts, cond_both, eq-eqb, eqb-true}
use lib.Pointwise.{bytes_decides}
use Rattle.coap_model.specs.Prelude.{AreDistinct, Change, Delete, Dynamic, Message, Nothing, Observer, Path, Put}
use Rattle.coap_model.specs.Prelude.{ReportsState, Representation, RequestTarget, Response, StoreValue, Time, answer_at}
use Rattle.coap_model.specs.Prelude.{answer_of, built, changed, content, decimal, entry_for, etag_at, etag_of_state}
use Rattle.coap_model.specs.Prelude.{format_of, found_in, goes_on, immediate_answer, is_among, is_due, is_dynamic}
use Rattle.coap_model.specs.Prelude.{is_observable, key_for, kind_of_path, last_request, NamesEtag, notification}
use Rattle.coap_model.specs.Prelude.{notification_at, notification_message, path_of, prompt_answer, responds}
use Rattle.coap_model.specs.Prelude.{response_with_observe, same_bytes, same_state, state_at, state_of, text_plain}
use Rattle.coap_model.specs.Prelude.{valid}
use Rattle.coap_store.specs.Answer.{Answer}
use Rattle.coap_store.specs.Requests.{etag_of, values_of}
use Rattle.coap_wire.specs.OptionNumbers as numbers
use Rattle.coap_path.specs.declared.resource_kind.ResourceKind.{ResourceKind}
use Rattle.coap_store.proofs.CatalogueLemmas.{same_format}
use Rattle.coap_store.proofs.ChangeLaws.{deleted_is_gone, distinct_stays, other_is_kept_on_delete, other_is_kept_on_put}
use Rattle.coap_store.proofs.ChangeLaws.{put_is_stored}
use Rattle.coap_store.proofs.VersionLaws.{by_path}
use Rattle.coap_store.proofs.ApplicationLaws.{prompt_cases}
use Rattle.coap_store.proofs.WatchLaws.{promptly_watched_is_there, stored_unwatched, watched_at_once}
use Rattle.coap_store.proofs.AnswerLaws.{answer_cases, get_cases, store_cases}
use Rattle.coap_model.specs.world.Observers as world
use Rattle.coap_store.specs.declared.plan.Watch.TheVariants as watch
use Rattle.coap_model.proofs.world.WalkLaws.{there_or_not}
use Rattle.coap_model.proofs.world.PlaceLaws.{found}

-- ---- facts on an observer

-- The state sent last was stored: it has a version, and no other representation has this version at the path.
pub record KnowsStored (store : StoreValue) (o : Observer) : Type 0 where
  pub state : Representation
  pub was : o.reported ≡ Some state
  pub numbered : 1 ≤ state.version
  pub given : state.version ≤ store.versions
  pub same : (r : Representation) → found_in store.resources o.path ≡ Some r → r.version ≡ state.version → r ≡ state

-- The state sent last was a time.
pub record KnowsMoment (o : Observer) : Type 0 where
  pub moment : ℕ
  pub was : o.reported ≡ built text_plain (decimal moment)
  pub small : moment ≤ 18446744073709551615

-- Created resources and `/time` can be observed, and no others.
abbrev pub IsKnownAt : ResourceKind → StoreValue → Observer → Type 0
IsKnownAt Time store o = KnowsMoment o
IsKnownAt Dynamic store o = KnowsStored store o
IsKnownAt other store o = ⊥

pub record IsKnown (store : StoreValue) (o : Observer) : Type 0 where
  pub key : key_for o.path ≡ Some o.path
  pub state : IsKnownAt (kind_of_path o.path) store o

-- No path occurs twice in the store, and each version was assigned by it.
pub record IsVersioned (store : StoreValue) : Type 0 where
  pub distinct : AreDistinct store.resources
  pub numbered : (path : Path) (r : Representation) → found_in store.resources path ≡ Some r → 1 ≤ r.version
  pub given : (path : Path) (r : Representation) → found_in store.resources path ≡ Some r → r.version ≤ store.versions

pub bytes_itself : (xs : List ℕ) → same_bytes xs xs ≡ true
bytes_itself xs = (bytes_decides xs xs).1 refl

-- ---- states

pub state_itself : (state : Option Representation) → same_state state state ≡ true
state_itself None = refl
state_itself (Some r) = search (rules, eq-eqb, bytes_itself)

format_is : (f g : Option ℕ) → world.same_format f g ≡ true → f ≡ g
format_is None None e = refl
format_is (Some m) (Some n) e = ap Some (eqb-true m n e)
format_is f g e = absurd cc

-- States that compare as the same are equal.
pub state_is : (reported state : Option Representation) → same_state reported state ≡ true → reported ≡ state
state_is None None e = refl
state_is (Some r) (Some q) e = search (rules, and_parts, eqb-true, format_is, bytes_decides)
state_is reported state e = absurd cc

-- An observer that is not due was last sent the current state.
pub sent_now : (store : StoreValue) (now : ℕ) (o : Observer) → is_due store now o ≡ false
    → o.reported ≡ state_of store now o.path
unfolding is_due
sent_now store now o e = search rules

-- An observer that was last sent the current state is not due.
pub not_due : (store : StoreValue) (now : ℕ) (o : Observer) → o.reported ≡ state_of store now o.path
    → is_due store now o ≡ false
unfolding is_due
not_due store now o e = search rules

-- ---- changes of the store

-- A representation found after a change has the version that the change assigned, or was in the store before.
found_later : (store : StoreValue) (change : Change) (path : Path) (r : Representation) → AreDistinct store.resources
    → found_in (changed store change).resources path ≡ Some r
    → ((store.versions < r.version) × (r.version ≤ (changed store change).versions))
    ⊎ (found_in store.resources path ≡ Some r)
found_later store Nothing path r distinct found = inr found
found_later store (Put at format bytes) path r distinct found = by_path path at
    (λ here. (grind (arith, put_is_stored)))
    (λ apart. grind (arith, other_is_kept_on_put, found))
found_later store (Delete at) path r distinct found =
    grind (arith, by_path, deleted_is_gone, other_is_kept_on_delete, found)

versions_grow : (store : StoreValue) (change : Change) → store.versions ≤ (changed store change).versions
versions_grow store (Put at format bytes) = omega arith
versions_grow store other = omega arith

pub still_versioned : (store : StoreValue) (change : Change) → IsVersioned store → IsVersioned (changed store change)
still_versioned store change is = search (rules, distinct_stays, found_later, versions_grow)

known_at_still : (place : ResourceKind) (store : StoreValue) (change : Change) (o : Observer) → IsVersioned store
    → IsKnownAt place store o → IsKnownAt place (changed store change) o
known_at_still Dynamic store change o is known = search (rules, versions_grow, found_later)
known_at_still other store change o is known = known

-- The facts on an observer hold after any change.
pub still_known : (store : StoreValue) (change : Change) (o : Observer) → IsVersioned store → IsKnown store o
    → IsKnown (changed store change) o
still_known store change o is known = search (rules, known_at_still)

-- ---- sending the current state

-- The path names an observable resource, and it has a state.
pub record IsWatchable (store : StoreValue) (now : ℕ) (path : Path) : Type 0 where
  pub key : key_for path ≡ Some path
  pub observable : is_observable (kind_of_path path) ≡ true
  pub representation : Representation
  pub there : state_of store now path ≡ Some representation

sent_at : (place : ResourceKind) (store : StoreValue) (now : ℕ) (token : List ℕ) (path : Path) (r : Representation)
    → now ≤ 18446744073709551615 → IsVersioned store → is_observable place ≡ true
    → state_at store now (Some path) place ≡ Some r
    → IsKnownAt place store (record { token = token; path = path; reported = Some r })
unfolding state_at
sent_at Time store now token path r small is e there = record { moment = now; was = sym there; small = small }
sent_at Dynamic store now token path r small is e there = search rules
sent_at other store now token path r small is e there = absurd cc

-- An observer that is sent the current state has the facts.
pub sent_known : (store : StoreValue) (now : ℕ) (token : List ℕ) (path : Path) → now ≤ 18446744073709551615
    → IsVersioned store → IsWatchable store now path
    → IsKnown store (record { token = token; path = path; reported = state_of store now path })
sent_known store now token path small is can = search (rules, sent_at)

-- ---- states that are sent

-- A request that asks for an entry names such a path.
pub entry_watchable : (store : StoreValue) (now : ℕ) (m : Message) → (prompt_answer store now m).watch ≡ watch.Add
    → IsWatchable store now (path_of m)
entry_watchable store now m =
    prompt_cases store now m (λ a. a.watch ≡ watch.Add → IsWatchable store now (path_of m)) (λ e. absurd cc) (λ e. (
    let may = promptly_watched_is_there store now m e in
    record { key = may.key; observable = may.observable; representation = may.representation; there = may.there }))

known_observable : (place : ResourceKind) (store : StoreValue) (o : Observer) → IsKnownAt place store o
    → is_observable place ≡ true
known_observable Time store o known = refl
known_observable Dynamic store o known = refl
known_observable other store o known = absurd known

-- A notification with Observe is the 2.05 of the state, in the format sent last.
pub record ReportsOn (place : ResourceKind) (state : Option Representation) (format : Option ℕ)
    (a : Response) : Type 0 where
  pub representation : Representation
  pub there : state ≡ Some representation
  pub same : representation.format ≡ format
  pub says : a ≡ content place representation

reports_on_at : (place : ResourceKind) (state : Option Representation) (format : Option ℕ)
    → goes_on (notification_at place state format) ≡ true
    → ReportsOn place state format (notification_at place state format)
unfolding notification_at
reports_on_at place None format e = absurd cc
reports_on_at place (Some r) format e = search (rules, cond_both, same_format)

pub reports_on_to_observer : (store : StoreValue) (now : ℕ) (o : Observer) → goes_on (notification store now o) ≡ true
    → ReportsOn (kind_of_path o.path) (state_of store now o.path) (format_of o.reported) (notification store now o)
reports_on_to_observer store now o e = search (rules, reports_on_at)

pub left_watchable : (store : StoreValue) (now : ℕ) (o : Observer) → IsKnown store o
    → goes_on (notification store now o) ≡ true → IsWatchable store now o.path
left_watchable store now o known e =
    let reports = reports_on_to_observer store now o e in
    record {
      key = known.key;
      observable = known_observable (kind_of_path o.path) store o known.state;
      representation = reports.representation;
      there = reports.there;
    }

-- ---- responses that report a state

-- The 2.05 of a state; or the 2.03 of a stored one, if its ETag was named.
abbrev pub SaysState : Type 0 → ResourceKind → Representation → Response → Type 0
SaysState Named place r a = (a ≡ content place r) ⊎ ((a ≡ etag_of_state r) × (is_dynamic place ≡ true) × Named)

-- Such a response with Observe reports the state.
pub says_reports : (handled : List Message) (o : Observer) (state : Option Representation) (r : Representation)
    (a : Response) → state ≡ Some r → SaysState (NamesEtag handled o r) (kind_of_path o.path) r a
    → ReportsState handled o state (response_with_observe o.token true a)
says_reports handled o state r a there (inl e) = rw there (inl (ap (response_with_observe o.token true) e))
says_reports handled o state r a there (inr e) =
    rw there (inr (ap (response_with_observe o.token true) e.0, e.1, e.2))

-- A message that reports a state is a response with the observer's token.
pub reports_responds : (handled : List Message) (o : Observer) (state : Option Representation) (m : Message)
    → ReportsState handled o state m → responds o.token m ≡ true
reports_responds handled o None m reports = absurd reports
reports_responds handled o (Some r) m (inl e) = ap (responds o.token) e ∙ bytes_itself o.token
reports_responds handled o (Some r) m (inr e) = ap (responds o.token) e.0 ∙ bytes_itself o.token

-- ---- answers

-- An ETag option of the request is the ETag of a state.
abbrev Names : Message → Representation → Type 0
Names m r = is_among (Some (etag_of r)) (values_of numbers.etag m) ≡ true

-- An answer that adds an observer reports the state of the path.
abbrev ReportsWell : ResourceKind → Option Representation → Message → Answer → Type 0
ReportsWell place state m a =
    a.watch ≡ watch.Add → (r : Representation) × (state ≡ Some r) × SaysState (Names m r) place r a.response

-- An ETag matches only if the state is stored.
valid_says : (place : ResourceKind) (r : Representation) (m : Message)
    → is_among (etag_at place r) (values_of numbers.etag m) ≡ true → SaysState (Names m r) place r (valid place r)
valid_says Dynamic r m e = inr (refl, refl, e)
valid_says other r m e = absurd cc

telling_at : (s : StoreValue) (t : RequestTarget) (m : Message) → ReportsWell t.place t.state m (answer_at s t m)
telling_at s t m =
    let P : Answer → Type 0 = ReportsWell t.place t.state m in
    answer_cases P s t m (λ c error e. absurd cc) (record {
      read = λ r is. get_cases P t.place r m (λ c error e. absurd cc) (grind (arith, valid_says, t.place));
      deleted = λ dynamic other e. absurd cc;
      stored = λ dynamic other. store_cases P s t m (λ c error e. absurd cc) (λ e. absurd cc)
          (λ can e. absurd (cc (stored_unwatched t.key t.state m)));
    })

-- The answer that adds an observer is not delayed.
immediately_reports : (store : StoreValue) (now : ℕ) (m : Message)
    → ReportsWell (kind_of_path (path_of m)) (state_of store now (path_of m)) m (immediate_answer store now m)
unfolding answer_of immediate_answer
immediately_reports store now m e = search (rules, there_or_not, telling_at, watched_at_once)

-- A request that the application answers adds none.
prompt_reports : (store : StoreValue) (now : ℕ) (m : Message)
    → ReportsWell (kind_of_path (path_of m)) (state_of store now (path_of m)) m (prompt_answer store now m)
prompt_reports store now m =
    prompt_cases store now m (ReportsWell (kind_of_path (path_of m)) (state_of store now (path_of m)) m)
    (λ e. absurd cc) (immediately_reports store now m)

named_so : (A B : Type 0) (place : ResourceKind) (r : Representation) (a : Response) → (A → B) → SaysState A place r a
    → SaysState B place r a
named_so A B place r a to (inl e) = inl e
named_so A B place r a to (inr e) = inr (e.0, e.1, to e.2)

-- Its response reports the state that the entry records, if the request is the last one with its token.
pub entry_reports : (store : StoreValue) (now : ℕ) (handled : List Message) (m : Message)
    → last_request m.token handled ≡ Some m → (prompt_answer store now m).watch ≡ watch.Add
    → ReportsState handled (entry_for store now m) (state_of store now (path_of m))
    (response_with_observe m.token true (prompt_answer store now m).response)
entry_reports store now handled m last e = grind (arith, prompt_reports, says_reports, named_so)

-- ---- notifications

-- A notification with Observe reports the state that the entry records from then on.
pub notification_reports_observer : (handled : List Message) (store : StoreValue) (now : ℕ) (o : Observer)
    → goes_on (notification store now o) ≡ true
    → ReportsState handled o (state_of store now o.path) (notification_message o.token (notification store now o))
notification_reports_observer handled store now o on =
    let is = reports_on_to_observer store now o on in
    rw on (grind (arith, says_reports))
