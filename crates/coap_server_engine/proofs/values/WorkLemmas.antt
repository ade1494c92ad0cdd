-- The connections on which a call leaves the same work.
use Rattle.std.proofs.Common.{◌≡◌, ◌≢◌, ℕ, ◌+◌, ◌<◌, ◌≤◌, nat_lt, List, [], ◌∷◌, ◌++◌, length, Option, Some, refl, sym}
use Rattle.std.proofs.Common.{ap, ◌∙◌, arith, map, remove, option_map, is_none, is_some, IfSome, None, slice_get, false}
use Rattle.std.proofs.Common.{zero, suc, add-one, inl, inr, ◌^◌}
use Rattle.std.proofs.lemmas.Bool.{or_parts, ltb-false, cond_both, cases_lt}
use Rattle.std.proofs.lemmas.Bool.Decides.{nat_tests}
use Rattle.std.proofs.lemmas.List.{map-append}
use Rattle.std.proofs.lemmas.Map.Entries.{length-values_of}
use Rattle.std.proofs.lemmas.Map.Made.{keys_of-map_values}
use Rattle.indexmap.proofs.SetLemmas.{map-remove}
use Rattle.coap_server_engine.specs.Prelude.{keys_of, values_of, Path, Change, Put, Delete, IsStore, ServerState}
use Rattle.coap_server_engine.specs.Prelude.{SessionValue, shared_changed, due_on, path_hash, change_hash, new_session}
use Rattle.coap_server_engine.specs.Prelude.{session_settled, IsSettled, ServerValue, LiesAt, session_of}
use Rattle.coap_server_engine.specs.Prelude.{session_becomes, settled_entry, on_session, server_settled, server_opened}
use Rattle.coap_server_engine.specs.Prelude.{server_dropped, server_ticked, server_put, server_removed, server_offered}
use Rattle.coap_server_engine.specs.Prelude.{session_given_by, message_of, responded_refusal, AreSettled, Covers}
use Rattle.coap_server_engine.specs.Prelude.{IsOutside, bit_of, work_of, KeepsWork, KeepsOthers, AddsAffected}
use Rattle.coap_server_engine.specs.Prelude.{AddsConcerned, TakeOutcome, taking, server_taken, server_taken_so}
use Rattle.coap_server_engine.specs.Prelude.{set_value_at, AllByRecursion, IsBefore, OnlyTimePasses, next_deadline}
use Rattle.coap_server_engine.specs.Prelude.{earliest_deadline, WaitsForDeadlines}
use Rattle.coap_server_session.specs.Prelude.{AllByRecursion, find, list_any, ObserverValue, is_stale, is_time_observer}
use Rattle.coap_server_session.specs.Prelude.{changed_mark, may_concern, IsBefore, sooner}
use Rattle.coap_server_session.specs.declared.cause.Cause.TheVariants as cause
use Rattle.coap_server_session.proofs.values.SettleLemmas.{settled_stays, settled_still, none_is_pending}
use Rattle.coap_server_session.proofs.values.CauseLemmas.{hash_where_changed, settled_elsewhere}
use Rattle.coap_server_session.proofs.values.DueLemmas.{at_moment, mark_later, stays_settled}
use Rattle.coap_server_session.proofs.values.TakenLemmas.{shared_stays}
use Rattle.coap_server_session.proofs.values.ConcernLemmas.{unconcerned}
use Rattle.coap_model.proofs.OptionLemmas.{there_at}
use Rattle.coap_model.proofs.world.EntryLemmas.{none_due}
use Rattle.coap_server_engine.proofs.values.ServerLemmas.{Entries, settling, one_of_all, one_settles, one_opened}
use Rattle.coap_server_engine.proofs.values.ServerLemmas.{one_removed, keys_where_settled, keys_where_one_changed}
use Rattle.coap_server_engine.proofs.values.ServerLemmas.{lies_still, written_at_index, changed_one, all_are_settled}
use Rattle.coap_server_engine.proofs.values.ServerLemmas.{all_settled_stay}

-- ---- the other connections

pub other_stays : (other id : ℕ) (f : SessionValue → SessionValue) (es : Entries) → other ≢ id → session_of other
    (map (session_becomes id f) es) ≡ session_of other es
unfolding session_of
other_stays other id f [] apart = refl
other_stays other id f (e ∷ es) apart = grind (arith, nat_tests, other_stays other id f es apart)

other_is_there : (other id : ℕ) (s : SessionValue) (es : Entries) → other ≢ id → session_of other (es ++ (id, s) ∷ []) ≡
    session_of other es
unfolding session_of
other_is_there other id s [] apart = grind (arith, nat_tests)
other_is_there other id s (e ∷ es) apart = rw (other_is_there other id s es apart)

each_settles : (other : ℕ) (shared : ServerState) (es : Entries) → session_of other (map (settled_entry shared) es) ≡
    option_map (session_settled shared) (session_of other es)
unfolding session_of
each_settles other shared [] = refl
each_settles other shared (e ∷ es) = grind (arith, each_settles other shared es)

-- ---- calls that concern one connection

pub keeps_all_work : (words : List ℕ) (v : ServerValue) → KeepsWork words v v
keeps_all_work words v = record {
  keys = refl;
  same = λ i id lies outside. refl;
  work = λ i id lies outside. refl;
}

pub keeps_all : (id : ℕ) (v : ServerValue) → KeepsOthers id v v
keeps_all id v = record { keys = refl; same = λ other apart. refl; work = λ other apart. refl }

-- One connection changes, and all settle.
pub keeps_others : (v : ServerValue) (id : ℕ) (f : SessionValue → SessionValue) → AreSettled v.shared v.sessions
    → KeepsOthers id v (server_settled (on_session id f v))
keeps_others v id f settled =
    let stays : (other : ℕ) → other ≢ id
    → session_of other (server_settled (on_session id f v)).sessions ≡ session_of other v.sessions =
    λ other apart. rw (← one_settles v.shared id f _ settled)
    (other_stays other id (settling v.shared f) v.sessions apart) in
    record {
      keys = keys_where_settled id f v.shared _;
      same = stays;
      work = λ other apart. rw (stays other apart);
    }

-- A response is given, if the server accepts it.
pub offered_keeps : (v : ServerValue) (id : ℕ) (bytes : List ℕ) → AreSettled v.shared v.sessions → KeepsOthers id v
    (server_offered v id bytes)
offered_keeps v id bytes settled =
    cond_both (is_none (responded_refusal v id bytes)) _ v (KeepsOthers id v)
    (λ _. keeps_others v id (session_given_by (message_of bytes)) settled) (λ _. keeps_all id v)

module _ (v : ServerValue) (settled : AreSettled v.shared v.sessions) where
  pub opened_keys : keys_of (server_opened v).sessions ≡ keys_of v.sessions ++ (v.ids + 1) ∷ []
  opened_keys = ap keys_of (one_opened v settled) ∙ map-append (λ e. e.0) v.sessions _

  pub opened_keeps : (other : ℕ) → other ≢ v.ids + 1 → work_of (server_opened v) other ≡ work_of v other
  opened_keeps other apart =
      ap (option_map _) (ap (session_of other) (one_opened v settled) ∙ other_is_there other
      _ (new_session v.config.limits) _ apart)

  pub dropped_keys : (id i : ℕ) → LiesAt id i v.sessions → keys_of (server_dropped v id).sessions ≡ remove
      (keys_of v.sessions) i
  dropped_keys id i lies = ap keys_of (sym (one_removed v id i settled lies)) ∙ map-remove (λ e. e.0) _ i

-- ---- changes that concern several connections

-- The connection with this id, and the work left on it, are the same.
abbrev IsSame : ServerValue → ServerValue → ℕ → Type 0
IsSame v after id = (session_of id after.sessions ≡ session_of id v.sessions) × (work_of after id ≡ work_of v id)

-- A connection that is settled already.
stays_there : (v : ServerValue) (shared : ServerState) (es : Entries) (id : ℕ) (s : SessionValue)
    → session_of id v.sessions ≡ Some s → session_of id es ≡ Some s → IsSettled shared s
    → due_on shared.now s ≡ due_on v.shared.now s
    → IsSame v (record v { shared = shared; sessions = map (settled_entry shared) es }) id
stays_there v shared es id s before now settled due =
    rw (each_settles id shared es, now, before, settled_stays shared s settled, due) (refl, refl)

one_at : (id i : ℕ) (es : Entries) → LiesAt id i es → (s : SessionValue) × (slice_get (values_of es) i ≡ Some s)
one_at id i es lies = there_at _ i (rw (length-values_of es) lies.within)

-- If each connection outside the set is settled already, and its deadline stays, nothing changes when all settle.
keeps_settled : (v : ServerValue) (words : List ℕ) (shared : ServerState)
    → ((i : ℕ) (s : SessionValue) → slice_get (values_of v.sessions) i ≡ Some s → IsOutside words i
    → IsSettled shared s × (due_on shared.now s ≡ due_on v.shared.now s))
    → KeepsWork words v (server_settled (record v { shared = shared }))
keeps_settled v words shared calm = record {
  keys = keys_of-map_values (session_settled shared) v.sessions;
  same = λ i id lies outside. (one i id lies outside).0;
  work = λ i id lies outside. (one i id lies outside).1;
}
  where
    one : (i id : ℕ) → LiesAt id i v.sessions → IsOutside words i
        → IsSame v (server_settled (record v { shared = shared })) id
    one i id lies outside =
        let s = one_at id i _ lies in
        let is = calm i s.0 s.1 outside in
        stays_there v shared v.sessions id s.0 (lies.found ∙ s.1) (lies.found ∙ s.1) is.0 is.1

-- An observer that does not observe the time is not stale later.
fresh_later : (shared : ServerState) (later : ℕ) (os : List ObserverValue) → IsStore shared.store
    → list_any is_time_observer os ≡ false → AllByRecursion (λ o. is_stale shared o ≡ false) os
    → find (is_stale (at_moment shared later)) os ≡ None
unfolding changed_mark
fresh_later shared later [] store none fresh = refl
fresh_later shared later (o ∷ os) store none fresh =
    grind (arith, fresh.0, mark_later shared later o store, fresh_later shared later os store)

-- A connection that no change of the time concerns has no deadline.
pub never_due : (now : ℕ) (s : SessionValue) → may_concern (cause.Moment now) s ≡ false → due_on now s ≡ None
never_due now s none = never _ (λ due. (unconcerned (cause.Moment now) due s none).0)
  where
    never : (o : Option ℕ) → ((due : ℕ) → IsBefore due o) → o ≡ None
    never None each = refl
    never (Some due) each = absurd (omega (arith, each due))

-- It stays settled.
timeless : (shared : ServerState) (later : ℕ) (s : SessionValue) → IsStore shared.store
    → may_concern (cause.Moment later) s ≡ false → IsSettled shared s → IsSettled (at_moment shared later) s
timeless shared later s store none settled =
    let parts = or_parts (nat_lt 0 (length s.link.pending)) (list_any is_time_observer s.observers) none in
    let few : length s.link.pending ≤ 0 = omega (arith, ltb-false 0 (length s.link.pending) parts.0) in
    settled_still shared (at_moment shared later) s (λ _. none_is_pending later s.link.pending few)
    (λ fresh. fresh_later shared later s.observers store parts.1 (none_due (is_stale shared) s.observers fresh)) settled

-- The time changes.
pub moment_keeps : (v : ServerValue) (words : List ℕ) (later : ℕ) → IsStore v.shared.store
    → AreSettled v.shared v.sessions
    → Covers (cause.Moment later) words v.sessions → KeepsWork words v (server_ticked v later)
moment_keeps v words later store settled covers = keeps_settled v words _ (λ i s at outside.
    let none = covers i s at outside in (
      timeless v.shared later s store none (one_of_all (IsSettled v.shared) i v.sessions s settled at),
      never_due later s none ∙ sym (never_due _ s none),
    ))

-- A change of the store leaves the connections settled that it does not concern.
calm_after : (shared : ServerState) (c : Change) (found : Option ℕ) (words : List ℕ) (es : Entries) (i : ℕ)
    (s : SessionValue) → found ≡ change_hash c → IfSome found (λ hash. Covers (cause.Path hash) words es)
    → slice_get (values_of es) i ≡ Some s → IsOutside words i
    → IsSettled shared s → IsSettled (shared_changed shared c) s
calm_after shared c None words es i s is covers at outside settled =
    rw (shared_stays shared c (sym (ap is_some is ∙ hash_where_changed c))) settled
calm_after shared c (Some hash) words es i s is covers at outside settled =
    settled_elsewhere shared c hash s (sym is) (unconcerned (cause.Path hash) shared.now s (covers i s at outside)).0
    settled

-- The resource at a path changes.
change_keeps : (v : ServerValue) (words : List ℕ) (c : Change) (hash : ℕ) → Some hash ≡ change_hash c
    → AreSettled v.shared v.sessions → Covers (cause.Path hash) words v.sessions
    → KeepsWork words v (server_settled (record v { shared = shared_changed v.shared c }))
change_keeps v words c hash is settled covers = keeps_settled v words _ (λ i s at outside. (
  calm_after v.shared c (Some hash) words _ i s is covers at outside
      (one_of_all (IsSettled v.shared) i v.sessions s settled at),
  refl,
))

module _ (v : ServerValue) (words : List ℕ) (path : Path) (hash : ℕ) (is : hash ≡ path_hash path) (settled : AreSettled
    v.shared v.sessions) (covers : Covers (cause.Path hash) words v.sessions) where
  pub put_keeps : (format : Option ℕ) (bytes : List ℕ) → KeepsWork words v (server_put v path format bytes)
  put_keeps format bytes = change_keeps v words (Put path format bytes) hash (ap Some is) settled covers

  pub removed_keeps : KeepsWork words v (server_removed v path)
  removed_keeps = change_keeps v words (Delete path) hash (ap Some is) settled covers

-- ---- takes, which may change a resource

module _ (v : ServerValue) (id i : ℕ) (s : SessionValue) (piece : List ℕ) (settled : AreSettled v.shared v.sessions)
    (lies : LiesAt id i v.sessions) (here : slice_get (values_of v.sessions) i ≡ Some s) where
  abbrev took : TakeOutcome
  took = taking v.shared s piece

  abbrev with_it : Entries
  with_it = map (session_becomes id (λ _. took.session)) v.sessions

  -- Another connection.
  other_same : (found : Option ℕ) (words : List ℕ) → found ≡ change_hash took.change
      → IfSome found (λ hash. Covers (cause.Path hash) words with_it) → (k other : ℕ) → other ≢ id
      → LiesAt other k v.sessions → IsOutside words k → IsSame v (server_taken_so v id took) other
  other_same found words is covers k other apart there outside =
      let one = one_at other k _ there in
      let was = there.found ∙ one.1 in
      let now = other_stays other id (λ _. took.session) v.sessions apart ∙ was in
      let keys = keys_where_one_changed id (λ _. took.session) _ in
      let at = sym (lies_still other k v.sessions with_it keys there).found ∙ now in
      stays_there v _ with_it other one.0 was now
      (calm_after v.shared took.change found words with_it k one.0 is covers at outside
      (one_of_all (IsSettled v.shared) k _ one.0 settled one.1)) refl

  pub taken_adds : (after : SessionValue) (found : Option ℕ) (before words : List ℕ) → after ≡ took.session
      → found ≡ change_hash took.change → AddsConcerned found before words (set_value_at v.sessions i after)
      → AddsAffected id before words v (server_taken v id piece)
  unfolding server_taken
  taken_adds after found before words after_is is adds =
      let written : set_value_at v.sessions i after ≡ with_it = cc (
        after_is,
        written_at_index (λ _. took.session) v.sessions i s here,
        changed_one id (λ _. took.session) v.sessions i lies.distinct lies.index lies.within,
      ) in
      let same = other_same found words is (rw written at adds.covers) in
      rw (lies.found ∙ here) (record {
        keys = keys_where_settled id (λ _. took.session) (shared_changed v.shared took.change) v.sessions;
        kept = adds.kept;
        same = λ k other apart there outside. (same k other apart there outside).0;
        work = λ k other apart there outside. (same k other apart there outside).1;
      })

taken_settled : (v : ServerValue) (id i : ℕ) (piece : List ℕ) → LiesAt id i v.sessions
    → AreSettled (server_taken v id piece).shared (server_taken v id piece).sessions
unfolding server_taken
taken_settled v id i piece lies = rw (lies.found ∙ (one_at id i _ lies).1) (all_are_settled _ _)

-- The response of the application may be given after it.
pub adds_offered : (v : ServerValue) (id i : ℕ) (piece bytes before words : List ℕ) → LiesAt id i v.sessions
    → AddsAffected id before words v (server_taken v id piece) → AddsAffected id before words v (server_offered
    (server_taken v id piece) id bytes)
adds_offered v id i piece bytes before words lies adds =
    let offered = offered_keeps _ id bytes (taken_settled v id i piece lies) in
    record {
      keys = offered.keys ∙ adds.keys;
      kept = adds.kept;
      same = λ k other apart there outside. offered.same other apart ∙ adds.same k other apart there outside;
      work = λ k other apart there outside. offered.work other apart ∙ adds.work k other apart there outside;
    }

-- ---- several takes on one connection

-- A set has the connection at an index, and each other one on which the work left changed.
pub record IsReported (at : ℕ) (words : List ℕ) (v now : ServerValue) : Type 0 where
  pub own : IsOutside words at → ⊥
  pub keeps : KeepsWork words v now

pub none_reported : (at : ℕ) (words : List ℕ) (v now : ServerValue) → now ≡ v → (at < 256 → bit_of words at ≡ 1)
    → IsReported at words v now
none_reported at words v now same own = rw same (record {
  own = λ outside. omega (
    arith,
    own outside.within,
    outside.bit,
  );
  keeps = keeps_all_work words v;
})

pub one_reported : {id at : ℕ} {before words : List ℕ} {v now after : ServerValue} → LiesAt id at now.sessions
    → AddsAffected id before words now after → IsReported at before v now → IsReported at words v after
one_reported {id = id} {at = at} {before = before} {words = words} {v = v} {now = now} here adds so =
    let still : (i other : ℕ) → LiesAt other i v.sessions → LiesAt other i now.sessions =
    λ i other there. lies_still other i v.sessions now.sessions so.keeps.keys there in
    let apart : (i other : ℕ) → LiesAt other i v.sessions → IsOutside words i → other ≢ id = λ i other there outside is.
    let place : i ≡ at = rw is at (sym (still i other there).index) ∙ here.index in
    so.own (rw place at (adds.kept i outside)) in
    record {
      own = λ outside. so.own (adds.kept at outside);
      keeps = record {
        keys = adds.keys ∙ so.keeps.keys;
        same =
            λ i other there outside. adds.same i other (apart i other there outside) (still i other there) outside
            ∙ so.keeps.same i other there (adds.kept i outside);
        work =
            λ i other there outside. adds.work i other (apart i other there outside) (still i other there) outside
            ∙ so.keeps.work i other there (adds.kept i outside);
      };
    }

-- The earliest of the deadlines of connections, by a search that skips those without a deadline.

-- ---- the earlier of two times

sooner_none : (d : Option ℕ) → sooner d None ≡ d
sooner_none d = grind arith

sooner_assoc : (d e f : Option ℕ) → sooner (sooner d e) f ≡ sooner d (sooner e f)
sooner_assoc d e f = grind arith

before_parts : (later : ℕ) (d e : Option ℕ) → IsBefore later (sooner d e) → IsBefore later d × IsBefore later e
before_parts later d e before = grind arith

-- ---- the connections from an index on

-- The earliest deadline of the connections from an index on.
unfoldable pub earliest_from : ℕ → Entries → ℕ → Option ℕ
earliest_from now [] i = None
earliest_from now (e ∷ es) zero = sooner (due_on now e.1) (earliest_from now es zero)
earliest_from now (e ∷ es) (suc i) = earliest_from now es i

pub from_first : (now : ℕ) (es : Entries) → earliest_from now es 0 ≡ earliest_deadline now es
unfolding earliest_from earliest_deadline
from_first now [] = refl
from_first now (e ∷ es) = ap (sooner (due_on now e.1)) (from_first now es)

from_end : (now : ℕ) (es : Entries) (i : ℕ) → length es ≤ i → earliest_from now es i ≡ None
unfolding earliest_from
from_end now [] i end = refl
from_end now (e ∷ es) zero end = absurd (omega arith)
from_end now (e ∷ es) (suc i) end = from_end now es i (omega arith)

from_one : (now : ℕ) (es : Entries) (i : ℕ) (s : SessionValue) → slice_get (values_of es) i ≡ Some s
    → earliest_from now es i ≡ sooner (due_on now s) (earliest_from now es (suc i))
unfolding earliest_from
from_one now [] i s at = absurd cc
from_one now (e ∷ es) zero s at = let same : e.1 ≡ s = cc in rw same
from_one now (e ∷ es) (suc i) s at = from_one now es i s at

-- The connections between two indices have no deadline.
from_later : (now : ℕ) (es : Entries) (a b : ℕ) → a ≤ b
    → ((i : ℕ) (s : SessionValue) → a ≤ i → i < b → slice_get (values_of es) i ≡ Some s → due_on now s ≡ None)
    → earliest_from now es a ≡ earliest_from now es b
unfolding earliest_from
from_later now [] a b less none = refl
from_later now (e ∷ es) zero zero less none = refl
from_later now (e ∷ es) zero (suc b) less none =
    rw (none zero e.1 (omega arith) (omega arith) refl) (from_later now es zero b (omega arith)
    (λ i s after before at. none (suc i) s (omega arith) (omega arith) at))
from_later now (e ∷ es) (suc a) zero less none = absurd (omega arith)
from_later now (e ∷ es) (suc a) (suc b) less none =
    from_later now es a b (omega arith) (λ i s after before at. none (suc i) s (omega arith) (omega arith) at)

-- ---- the search

-- The indices from one up to another do not belong to the set.
gap_skipped : (now : ℕ) (es : Entries) (words : List ℕ) (a b : ℕ) → a ≤ b → Covers (cause.Moment now) words es
    → ((i : ℕ) → a ≤ i → i < b → IsOutside words i) → earliest_from now es a ≡ earliest_from now es b
gap_skipped now es words a b less covers gap =
    from_later now es a b less (λ i s after before at. never_due now s (covers i s at (gap i after before)))

pub search_begins : (now : ℕ) (es : Entries) (words : List ℕ) (b : ℕ) → Covers (cause.Moment now) words es
    → ((i : ℕ) → 0 ≤ i → i < b → IsOutside words i) → earliest_from now es b ≡ earliest_deadline now es
search_begins now es words b covers gap =
    sym (gap_skipped now es words 0 b (omega arith) covers gap) ∙ from_first now es

pub search_continues : (now : ℕ) (es : Entries) (words : List ℕ) (at b : ℕ) (s : SessionValue) (due : Option ℕ)
    → slice_get (values_of es) at ≡ Some s → at + 1 ≤ b → Covers (cause.Moment now) words es
    → ((i : ℕ) → at + 1 ≤ i → i < b → IsOutside words i)
    → sooner due (earliest_from now es at) ≡ earliest_deadline now es
    → sooner (sooner due (due_on now s)) (earliest_from now es b) ≡ earliest_deadline now es
search_continues now es words at b s due there less covers gap so =
    rw (
      sooner_assoc,
      ← gap_skipped now es words (at + 1) b less covers gap,
      add-one at,
      ← from_one now es at s there,
    ) so

pub search_ends : (now : ℕ) (es : Entries) (at : ℕ) (due : Option ℕ) → length es ≤ at
    → sooner due (earliest_from now es at) ≡ earliest_deadline now es → due ≡ earliest_deadline now es
search_ends now es at due end so = rw (from_end now es at end, sooner_none due) at so

-- ---- a time before the earliest deadline

stay_settled : (shared : ServerState) (later : ℕ) (es : Entries) → IsStore shared.store → AreSettled shared es
    → shared.now < later → later < 2 ^ 64 → AllByRecursion (λ e. IsBefore later (due_on shared.now e.1)) es
    → AreSettled (at_moment shared later) es
stay_settled shared later [] store settled more fits before = tt
stay_settled shared later (e ∷ es) store settled more fits before = (
  stays_settled shared later e.1 store settled.0 more fits before.0,
  stay_settled shared later es store settled.1 more fits before.1,
)

-- Time alone queues nothing before it is due.
pub waits_for_what_is_due : (v : ServerValue) (later : ℕ) → IsStore v.shared.store → AreSettled v.shared v.sessions
    → v.shared.now ≤ later → later < 2 ^ 64 → WaitsForDeadlines v later
waits_for_what_is_due v later store settled on fits before =
    let still : AreSettled _ _ = elim (cases_lt _ later) [
      | inl more ↦ stay_settled v.shared later _ store settled more fits before
      | inr no_more ↦ let same : v.shared.now ≡ later = omega arith in rw (← same) settled
    ] in
    rw (all_settled_stay _ _ still)

each_before : (later now : ℕ) (es : Entries) → IsBefore later (earliest_deadline now es)
    → AllByRecursion (λ e. IsBefore later (due_on now e.1)) es
unfolding earliest_deadline
each_before later now [] before = tt
each_before later now (e ∷ es) before =
    let parts = before_parts later (due_on now e.1) _ before in
    (parts.0, each_before later now es parts.1)

pub waits_for_the_next : (v : ServerValue) (later : ℕ) → IsStore v.shared.store → AreSettled v.shared v.sessions
    → v.shared.now ≤ later → later < 18446744073709551616 → IsBefore later (next_deadline v) → OnlyTimePasses v later
waits_for_the_next v later store settled on fits before =
    waits_for_what_is_due v later store settled on fits (each_before later v.shared.now v.sessions before)
