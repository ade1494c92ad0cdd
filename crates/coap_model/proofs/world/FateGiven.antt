-- The responses that the application gives are its answers to requests, in order.
use Rattle.std.proofs.Common.{Bool, List, None, Option, Some, [], ap, arith, false, inl, inr, length, map, refl, rules}
use Rattle.std.proofs.Common.{subst, sym, true, ℕ, ◌++◌, ◌<◌, ◌∙◌, ◌∷◌, ◌≡◌, ◌≢◌, ◌≤◌}
use Rattle.std.proofs.lemmas.Bool.{and_parts, both_ways, cases_Bool, cases_eq, cond_both, eq-eqb, ne_eqb}
use Rattle.std.proofs.lemmas.List.{append-nil, map-append}
use Rattle.std.proofs.lemmas.List.Elements.{All-from_recursion, recursion_from_All}
use Rattle.std.specs.List.Sorted.{IsPermutation}
use Rattle.std.proofs.lemmas.List.Sorted.{All-permutation, IsPermutation-append_right, IsPermutation-middle}
use Rattle.std.proofs.lemmas.List.Sorted.{IsPermutation-push_more, IsPermutation-refl, IsPermutation-sym}
use Rattle.std.proofs.lemmas.List.Sorted.{IsPermutation-trans}
use Rattle.coap_model.specs.Prelude.{AcceptedCall, AllByRecursion, Answered, Application, ApplicationRequest}
use Rattle.coap_model.specs.Prelude.{AreAccepted, AreAnswers, AreQueuedInOrder, ConfigValues, Connection, Engine, Fate}
use Rattle.coap_model.specs.Prelude.{History, IsAccepted, IsUnfit, LimitValues, Message, PeerTooSmall, Reason, Reply}
use Rattle.coap_model.specs.Prelude.{Step, StoreValue, Unanswered, World, acted, after_steps, answers, bare_response}
use Rattle.coap_model.specs.Prelude.{due_index, fate_by, fate_of, first_due, fit, fitted, given_in, given_on}
use Rattle.coap_model.specs.Prelude.{is_unanswered, without_due, is_unanswered_with, late_message, limit_now, link_of}
use Rattle.coap_model.specs.Prelude.{list_any, new_request, requests_acted, requests_after, requests_by, requests_on}
use Rattle.coap_model.specs.Prelude.{requests_responded, requests_then, response_of, response_refusal, responses_to}
use Rattle.coap_model.specs.Prelude.{settled, side_of, side_responded, steps_by, with_fate, without_request}
use Rattle.coap_model.specs.Prelude.{world_after}
use Rattle.coap_wire.proofs.NumberLaws.{none_or_some}
use Rattle.coap_conn.specs.PendingEntries.{is_request_for}
use Rattle.coap_conn.specs.declared.phase.Phase.TheVariants.{Stopped}
use Rattle.coap_conn.specs.declared.phase.Reply.TheVariants as reply
use Rattle.coap_model.specs.world.Events as event
use Rattle.coap_model.specs.world.World as world
use Rattle.coap_model.proofs.OptionLemmas.{same_there}
use Rattle.coap_model.proofs.world.WalkLaws.{sent, settled_between, there_or_not}
use Rattle.coap_model.proofs.world.AcrossLaws.{KeepsAll, all_across, settles_there}
use Rattle.coap_model.proofs.world.StepLaws.{by_events, each_beyond, world_first, world_more}
use Rattle.coap_model.proofs.world.ReachedLaws.{IsReached, OpensNext, accepted_is, ids_grow, number_given, on_one}
use Rattle.coap_model.proofs.world.PlaceLaws.{nobody}
use Rattle.coap_model.proofs.world.EntryLemmas.{all_append, all_to}
use Rattle.coap_model.proofs.world.FateLists.{IsOld, fate_cases, old_fate, waits}
use Rattle.coap_model.proofs.world.FateLaws.{Accounted, IsKept, IsNext, one_waits}
use Rattle.coap_model.proofs.world.FateKept.{after_message, answers_if_allowed, requests_accounted, response_next}
use Rattle.coap_model.proofs.world.AnswerCounts.{one}
use Rattle.coap_model.proofs.world.FateWalk.{acted_cases, before_steps, expires, requests_last, steps_stay, then_stays}

-- ---- the responses of requests

responses_more : (rs qs : List ApplicationRequest) → responses_to (rs ++ qs) ≡ responses_to rs ++ responses_to qs
unfolding responses_to
responses_more [] qs = refl
responses_more (r ∷ rs) qs = search (rules, responses_more rs qs)

unanswered_gives : (fate : Fate) → is_unanswered fate ≡ true → response_of fate ≡ []
unanswered_gives Unanswered is = refl
unanswered_gives (Answered by response sent handled place) is = absurd cc

-- A fate without a response of the application.
responses_with : (test : ApplicationRequest → Bool) (fate : Fate) → response_of fate ≡ []
    → ((r : ApplicationRequest) → test r ≡ true → waits r ≡ true) → (rs : List ApplicationRequest)
    → responses_to (with_fate test fate rs) ≡ responses_to rs
unfolding responses_to with_fate
responses_with test fate none to [] = refl
responses_with test fate none to (r ∷ rs) =
    search (rules, cond_both, unanswered_gives, responses_with test fate none to rs)

-- A fate with one.
responses_new : (test : ApplicationRequest → Bool) (fate : Fate) (m : Message × ℕ) → response_of fate ≡ m ∷ []
    → ((r : ApplicationRequest) → test r ≡ true → waits r ≡ true) → (rs : List ApplicationRequest)
    → list_any test rs ≡ true → IsPermutation (responses_to (with_fate test fate rs)) (m ∷ responses_to rs)
unfolding responses_to with_fate
responses_new test fate m one to [] some = absurd cc
responses_new test fate m one to (r ∷ rs) some =
    let old : List (Message × ℕ) = response_of r.fate in
    let new : List (Message × ℕ) = responses_to (with_fate test fate rs) in
    elim (cases_Bool (test r)) [
      | inl is ↦ rw (is, one, unanswered_gives r.fate (to r is)) (IsPermutation-refl (m ∷ responses_to rs))
      | inr other ↦ rw other (IsPermutation-trans (old ++ new) (old ++ m ∷ responses_to rs)
          (m ∷ (old ++ responses_to rs))
          (IsPermutation-append_right old new (m ∷ responses_to rs)
          (responses_new test fate m one to rs (rw other at some))) (IsPermutation-middle old m (responses_to rs)))
    ]

-- The places of the responses are earlier ones.
responses_old : (n : ℕ) (rs : List ApplicationRequest) → AllByRecursion (λ r. IsOld n r.fate) rs
    → AllByRecursion (λ m. m.1 < n) (responses_to rs)
unfolding responses_to
responses_old n [] old = tt
responses_old n (r ∷ rs) old =
    all_append (λ m. m.1 < n) (response_of r.fate) (responses_to rs) (by r.fate old.0) (responses_old n rs old.1)
  where
    by : (fate : Fate) → IsOld n fate → AllByRecursion (λ m. m.1 < n) (response_of fate)
    by Unanswered is = tt
    by (Answered Engine response sent handled place) is = tt
    by (Answered Application response sent handled place) is = (is, tt)

order_more : (ms : List (Message × ℕ)) (m : Message × ℕ) → AllByRecursion (λ other. other.1 < m.1) ms
    → AreQueuedInOrder ms → AreQueuedInOrder (ms ++ m ∷ [])
order_more [] m earlier in_order = (tt, tt)
order_more (n ∷ ms) m earlier in_order = search (rules, all_append, order_more ms m earlier.1 in_order.1)

-- ---- effects without a response of the application

engine_gives : (h : History) (m : Message) → response_of (fate_by Engine h m) ≡ []
engine_gives h m = fate_cases (λ f. response_of f ≡ []) Engine h m refl (λ sent. refl)

new_gives : (now : ℕ) (s : Connection) (m : Message) (o : Option ℕ) → responses_to (new_request now s m o) ≡ []
unfolding responses_to
new_gives now s m None = refl
new_gives now s m (Some seconds) = search (rules, after_message, append-nil, cond_both, engine_gives)

after_gives : (store : StoreValue) (now : ℕ) (s : Connection) (m : Message) (rs : List ApplicationRequest)
    → responses_to (requests_after store now s m rs) ≡ responses_to rs
unfolding requests_after
after_gives store now s m rs = search (rules, cond_both, responses_more, new_gives, append-nil)

due_gives : (h : History) (token : List ℕ) (moment : ℕ) (rs : List ApplicationRequest)
    → responses_to (with_fate (expires token moment) (fate_by Engine h (late_message Application token)) rs)
    ≡ responses_to rs
due_gives h token moment rs = search (rules, responses_with, engine_gives, and_parts, waits)

then_gives : (id : ℕ) (w : World) (rs : List ApplicationRequest)
    → responses_to (requests_then id w rs) ≡ responses_to rs
then_gives id w rs =
    then_stays (λ now qs. responses_to qs ≡ responses_to rs)
    (λ now s token moment qs is same. due_gives s.history token moment qs ∙ same) id w rs refl

-- ---- steps without a response of the application on a connection

-- The step does not open the connection, and is no response on it.
abbrev IsOther : ℕ → Step → Type 0
IsOther id (world.Opened other) = other ≢ id
IsOther id (world.Responded other m) = other ≢ id
IsOther id other = Unit {0}

others_give : (limits : LimitValues) (id : ℕ) (w : World) (ss : List Step) (rs : List ApplicationRequest)
    → AllByRecursion (IsOther id) ss → responses_to (requests_by limits id w ss rs) ≡ responses_to rs
others_give limits id w ss rs apart =
    steps_stay (λ now qs. responses_to qs ≡ responses_to rs)
    (λ now s token moment qs is same. due_gives s.history token moment qs ∙ same) limits id (IsOther id)
    (λ v st qs other same.
    acted_cases (λ ps. responses_to ps ≡ responses_to rs) id v st qs same
    (λ is. absurd ((subst (IsOther id) is other) refl)) (λ m s is there. after_gives v.store v.now s m qs ∙ same)
    (λ m s is there. absurd ((subst (IsOther id) is other) refl))) w ss rs apart refl

-- ---- connections that have stopped

-- A connection has stopped for this reason, and no entry is pending.
abbrev IsOver : History → Reason → Type 0
IsOver h why = (h.pending ≡ []) × (h.phase ≡ Stopped why)

-- If it has stopped, the reason and the limit stay.
abbrev Stays : History → History → Type 0
Stays h k = (why : Reason) → IsOver h why → IsOver k why × (limit_now k ≡ limit_now h)

all_stay : KeepsAll Stays
unfolding without_due first_due due_index
all_stay = grind arith

still_unfit : (h k : History) → (answers h.phase ≡ false → h.pending ≡ []) → Stays h k → (m : Message) → IsUnfit h m
    → IsUnfit k m
still_unfit h k quiet stays m unfit =
    let over = stays PeerTooSmall (quiet (rw unfit.1 refl), unfit.1) in (rw over.1 unfit.0, over.0.1)

-- If responses are sent, none was lost.
none_unfit : (h : History) (ms : List Message) → answers h.phase ≡ true → AllByRecursion (IsUnfit h) ms → ms ≡ []
none_unfit h [] on unfit = refl
none_unfit h (m ∷ ms) on unfit = absurd (both_ways (answers h.phase) (ap answers unfit.0.1) on)

-- A connection existed before such steps.
others_before : (limits : LimitValues) (id : ℕ) (w : World) (ss : List Step) (t : Connection)
    → AllByRecursion (IsOther id) ss → side_of id (after_steps limits w ss).sides ≡ Some t
    → (s : Connection) × (side_of id w.sides ≡ Some s) × Stays s.history t.history
others_before limits id =
    before_steps Stays Stays all_stay.composes.same all_stay.composes.then limits id (IsOther id) (λ apart. apart refl)
    (λ w st other. all_across Stays all_stay w st id)

-- A response that is not queued does not fit.
none_fits : (m : Message) (r : Reply) (handled place : ℕ)
    → is_unanswered (fate_of Application m (fitted m (bare_response m) r) handled place) ≡ true → r ≡ reply.Stopped
none_fits m reply.Whole handled place none = absurd cc
none_fits m reply.Bare handled place none = absurd cc
none_fits m reply.Stopped handled place none = refl

-- ---- events

-- The lists after one more event.
pub given_then : (id : ℕ) (es : List AcceptedCall) (e : AcceptedCall)
    → given_on id (es ++ e ∷ []) ≡ given_on id es ++ given_in id e
unfolding given_on
given_then id [] e = append-nil (given_in id e)
given_then id (d ∷ es) e = search (rules, given_then id es e)

-- The event neither opens the connection nor is a response on it.
abbrev IsOtherEvent : ℕ → AcceptedCall → Type 0
IsOtherEvent id (event.Opened other) = other ≢ id
IsOtherEvent id (event.Responded other m) = other ≢ id
IsOtherEvent id other = Unit {0}

other_steps : (id M : ℕ) (es : List AcceptedCall) (e : AcceptedCall) → IsOtherEvent id e
    → AllByRecursion (IsOther id) (steps_by M es e)
unfolding steps_by
other_steps id M es (event.Opened other) apart = (apart, tt)
other_steps id M es (event.Took other bytes) apart = search (rules, each_beyond)
other_steps id M es (event.Responded other m) apart = (apart, tt)
other_steps id M es e apart = (tt, tt)

other_given : (id : ℕ) (e : AcceptedCall) → IsOtherEvent id e → given_in id e ≡ []
other_given id (event.Responded other m) apart = rw (ne_eqb other id apart) refl
other_given id e apart = refl

-- ---- ids

-- Steps that open no connection do not change the id assigned last, and one that opens it assigns the next.
abbrev LeavesIds : Step → Type 0
LeavesIds (world.Opened id) = ⊥
LeavesIds other = Unit {0}

opens_next : (c : ConfigValues) (w : World) (st : Step) → LeavesIds st → OpensNext c w st
opens_next c w (world.Opened id) none = absurd none
opens_next c w other none = tt

ids_stay : (c : ConfigValues) (w : World) (ss : List Step) → AllByRecursion LeavesIds ss
    → w.ids ≤ (after_steps c.limits w ss).ids
unfolding after_steps
ids_stay c w [] none = omega arith
ids_stay c w (s ∷ ss) none =
    omega (arith, ids_grow c w s (opens_next c w s none.0), ids_stay c (world.step c.limits w s) ss none.1)

ids_later : (c : ConfigValues) (es : List AcceptedCall) (e : AcceptedCall) → IsAccepted c es e
    → (world_after c es).ids ≤ (world_after c (es ++ e ∷ [])).ids
unfolding IsAccepted steps_by after_steps
ids_later c es (event.Opened id) is = search (rules, world_more, ids_grow)
ids_later c es (event.Took id bytes) is = search (rules, world_more, ids_stay, each_beyond)
ids_later c es e is = search (rules, world_more, ids_stay)

-- ---- all events

module _ (c : ConfigValues) (id : ℕ) where
  -- The responses given on the connection are answers, if it exists. If it was never opened, none were given.
  record AreAll (es : List AcceptedCall) : Type 0 where
    none : (world_after c es).ids < id → given_on id es ≡ []
    answers_all : (s : Connection) → side_of id (world_after c es).sides ≡ Some s
        → AreAnswers s.history (given_on id es) (responses_to (requests_on c id es))

  first_all : AreAll []
  unfolding given_on
  first_all = search (rules, none_or_some, nobody, world_first)

  module _ (es : List AcceptedCall) (reached : IsReached c es) (is : AreAll es) where
    abbrev reached_world : World
    reached_world = world_after c es

    abbrev rs : List ApplicationRequest
    rs = requests_on c id es

    -- An event that concerns no response on the connection.
    other_all : (e : AcceptedCall) → IsAccepted c es e → IsOtherEvent id e → AreAll (es ++ e ∷ [])
    other_all e accepted apart =
        let M : ℕ = c.limits.max_message in
        let steps : AllByRecursion (IsOther id) (steps_by M es e) = other_steps id M es e apart in
        let same : given_on id (es ++ e ∷ []) ≡ given_on id es = grind (arith, given_then, other_given, append-nil) in
        record {
          none = λ later. same ∙ is.none (omega (arith, later, ids_later c es e accepted));
          answers_all = λ t there. (
              let before = others_before c.limits id reached_world (steps_by M es e) t steps
              (ap (λ (v : World). side_of id v.sides) (sym (world_more c es e)) ∙ there) in
              let were = is.answers_all before.0 before.1 in
              let quiet = (requests_accounted c es id before.0 before.1).quiet in
              let responses : responses_to (requests_on c id (es ++ e ∷ [])) ≡ responses_to rs =
              grind (arith, requests_last, others_give) in
              record {
                order = were.order;
                same = subst (IsPermutation were.order) (sym responses) were.same;
                in_order = were.in_order;
                lost = were.lost;
                given_are = same ∙ were.given_are;
                few = were.few;
                unfit = all_to (IsUnfit before.0.history) (IsUnfit t.history)
                    (still_unfit before.0.history t.history quiet before.2) were.lost were.unfit;
              });
        }

    -- The connection is opened.
    opened_all : IsAccepted c es (event.Opened id) → AreAll (es ++ event.Opened id ∷ [])
    unfolding IsAccepted steps_by requests_by requests_acted responses_to
    opened_all accepted =
        let same : given_on id (es ++ event.Opened id ∷ []) ≡ [] = grind (arith, given_then, append-nil, is.none) in
        let free : side_of id reached_world.sides ≡ None =
        there_or_not (side_of id reached_world.sides) (λ found. found ≡ None) (λ none. refl) (λ s there.
        absurd (omega (arith, accepted.0, (number_given c reached_world id s reached.numbered there).within))) in
        let start : requests_acted id reached_world (world.Opened id) rs ≡ [] = rw (eq-eqb id id refl, free) refl in
        let responses : responses_to (requests_on c id (es ++ event.Opened id ∷ [])) ≡ [] =
        grind (arith, requests_last, then_gives) in
        record {
          none = λ later. same;
          answers_all = λ t there. grind arith;
        }

    -- The application responds.
    module _ (m : Message) (s : Connection) (there : side_of id reached_world.sides ≡ Some s)
        (allows : response_refusal (link_of s.history) m ≡ None) where
      abbrev h : History
      h = s.history

      abbrev test : ApplicationRequest → Bool
      test = is_unanswered_with m.token

      abbrev settled_so : Connection
      settled_so = settled reached_world.store reached_world.now (side_responded s m)

      account : Accounted c.applications s rs
      account = requests_accounted c es id s there

      on : answers h.phase ≡ true
      on = answers_if_allowed h m account.quiet allows

      -- The responses before, all of which were answers.
      were : AreAnswers h (given_on id es) (responses_to rs)
      were = is.answers_all s there

      given_now : given_on id (es ++ event.Responded id m ∷ []) ≡ map (λ n. n.0) were.order ++ m ∷ []
      given_now = search (rules, given_then, eq-eqb, were, none_unfit, on, append-nil)

      earlier : AllByRecursion (λ n. n.1 < length h.queued) were.order
      earlier =
          let Earlier : Message × ℕ → Type 0 = λ n. n.1 < length h.queued in
          let old = all_to (IsKept s) (λ r. IsOld (length h.queued) r.fate) (λ r kept. old_fate h r r.fate kept.has) rs
          account.each in
          recursion_from_All Earlier were.order
          (All-permutation Earlier (responses_to rs) were.order
          (IsPermutation-sym were.order (responses_to rs) were.same)
          (All-from_recursion Earlier (responses_to rs) (responses_old (length h.queued) rs old)))

      waiting : (r : ApplicationRequest) → test r ≡ true → waits r ≡ true
      waiting r passes = (and_parts (waits r) _ passes).0

      next : IsNext h test (is_request_for m.token) Application m (without_request m.token h.pending)
      next = response_next h m allows

      abbrev placed : Message × ℕ
      placed = (m, length h.queued)

      -- The response is queued, or the connection stops.
      answers_by : (k : History) → (is_unanswered (fate_by Application h m) ≡ true → IsUnfit k m)
          → AreAnswers k (given_on id (es ++ event.Responded id m ∷ []))
          (responses_to (with_fate test (fate_by Application h m) rs))
      answers_by k =
          fate_cases (λ fate. (is_unanswered fate ≡ true → IsUnfit k m)
          → AreAnswers k (given_on id (es ++ event.Responded id m ∷ [])) (responses_to (with_fate test fate rs)))
          Application h m (λ over. record {
            order = were.order;
            same = rw (responses_with test Unanswered refl waiting rs) were.same;
            in_order = were.in_order;
            lost = m ∷ [];
            given_are = given_now;
            few = omega arith;
            unfit = (over refl, tt);
          }) (λ sent over. (
          let fate : Fate = Answered Application m sent (length h.handled) (length h.queued) in
          record {
            order = were.order ++ placed ∷ [];
            same =
                IsPermutation-push_more were.order (responses_to rs) (responses_to (with_fate test fate rs)) placed
                were.same (IsPermutation-sym (responses_to (with_fate test fate rs)) (placed ∷ responses_to rs)
                (responses_new test fate placed refl waiting rs
                (one_waits c.applications s rs test (is_request_for m.token) Application m
                (without_request m.token h.pending) next account on)));
            in_order = order_more were.order placed earlier were.in_order;
            lost = [];
            given_are = given_now ∙ rw (append-nil, map-append) refl;
            few = omega arith;
            unfit = tt;
          }))

      -- A connection on which the response did not fit has stopped.
      over_at_once : fit (limit_now h) m (bare_response m) ≡ reply.Stopped
          → IsOver (side_responded s m).history PeerTooSmall × (limit_now (side_responded s m).history ≡ limit_now h)
      unfolding side_responded
      over_at_once stops = rw (on, allows, stops) ((refl, refl), refl)

      over_then : is_unanswered (fate_by Application h m) ≡ true → IsUnfit settled_so.history m
      over_then none = grind (
        arith,
        none_fits,
        on,
        over_at_once,
        settled_between,
        all_stay.composes,
        all_stay.replies,
        all_stay.lets_go,
        all_stay.pongs,
      )

      there_then : side_of id (world_after c (es ++ event.Responded id m ∷ [])).sides ≡ Some settled_so
      unfolding steps_by after_steps world.step acted
      there_then =
          ap (λ (v : World). side_of id v.sides) (world_more c es (event.Responded id m))
          ∙ settles_there id reached_world.store reached_world.now (λ u. side_responded u m) reached_world.sides s there

      responses_are : responses_to (requests_on c id (es ++ event.Responded id m ∷ []))
          ≡ responses_to (with_fate test (fate_by Application h m) rs)
      unfolding steps_by requests_by requests_acted requests_responded
      responses_are = search (rules, requests_last, then_gives, eq-eqb)

      responded_all : IsAccepted c es (event.Responded id m) → AreAll (es ++ event.Responded id m ∷ [])
      responded_all accepted = record {
        none = λ later. absurd (omega (
          arith,
          later,
          ids_later c es (event.Responded id m) accepted,
          (number_given c reached_world id s reached.numbered there).within,
        ));
        answers_all = λ t now.
            subst (λ (u : Connection). AreAnswers u.history (given_on id (es ++ event.Responded id m ∷ []))
            (responses_to (requests_on c id (es ++ event.Responded id m ∷ []))))
            (same_there settled_so t (sym there_then ∙ now))
            (rw responses_are (answers_by settled_so.history over_then));
      }

    event_all : (e : AcceptedCall) → IsAccepted c es e → AreAll (es ++ e ∷ [])
    unfolding IsAccepted
    event_all (event.Opened other) accepted = search (rules, cases_eq, opened_all, other_all)
    event_all (event.Responded other m) accepted = search (rules, cases_eq, on_one, responded_all, other_all)
    event_all e accepted = other_all e accepted tt

-- After accepted events, the responses of the application are answers.
pub given_are_answers : (c : ConfigValues) (es : List AcceptedCall) (id : ℕ) (s : Connection) → AreAccepted c es
    → side_of id (world_after c es).sides ≡ Some s
    → AreAnswers s.history (given_on id es) (responses_to (requests_on c id es))
given_are_answers c es id s accepted there =
    (by_events c (AreAll c id) (first_all c id)
    (λ fs e before last is. event_all c id fs (accepted_is c fs before) is e last) es accepted).answers_all s there
