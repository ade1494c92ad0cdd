-- The changed marks of observers: their values, and which of them a change recomputes or keeps.
use Rattle.std.proofs.Common.{◌≡◌, ℕ, true, false, List, [], ◌∷◌, ◌++◌, map, Option, Some, None, is_some, refl, arith}
use Rattle.std.proofs.Common.{slice_set, not, remove, find}
use Rattle.std.proofs.lemmas.Bool.{ne_eqb, eqb-true, or_parts}
use Rattle.std.proofs.lemmas.List.{map-set, map_push}
use Rattle.std.proofs.lemmas.Option.{slice_get-map}
use Rattle.indexmap.proofs.SetLemmas.{map-remove}
use Rattle.coap_wire.specs.Codes as code
use Rattle.coap_store.proofs.NotificationLaws.{notification_reports}
use Rattle.coap_server_session.specs.Prelude.{list_any, Path, kind_of_path, state_at, is_dynamic, ServerState}
use Rattle.coap_server_session.specs.Prelude.{StaleObserver, Cause, LinkValue, ObserverValue, ObserversValue, mark_of}
use Rattle.coap_server_session.specs.Prelude.{state_on, is_stale, present_mark, unsent_by, changed_mark, AreMarked}
use Rattle.coap_server_session.specs.Prelude.{observers_left, is_time_observer, path_hash, is_concerned, ConcernsNone}
use Rattle.coap_server_session.specs.Prelude.{marks_anew, first_index, IsFirstStale, IsFirstMarked, goes_on}
use Rattle.coap_server_session.specs.Prelude.{notification_of}
use Rattle.coap_server_session.specs.declared.cause.Cause.TheVariants as cause
use Rattle.coap_server_session.proofs.values.SettleLemmas.{marked_now}

-- ---- the mark of one observer

-- The comparison in the code gives the changed mark.
pub unsent_is_changed : (shared : ServerState) (o : ObserverValue)
    → changed_mark shared o ≡ unsent_by (present_mark shared o.path) o.mark
unfolding changed_mark is_stale
unsent_is_changed shared o = grind arith

-- The mark of a built-in resource is the time.
pub built_in_mark : (shared : ServerState) (path : Path) → not (is_dynamic (kind_of_path path)) ≡ true
    → present_mark shared path ≡ Some shared.now
unfolding state_at
built_in_mark shared path is = grind arith

-- An observer that was sent the current state has no changed mark.
pub fresh_unmarked : (shared : ServerState) (o : ObserverValue) → is_stale shared o ≡ false → changed_mark shared o
    ≡ None
unfolding changed_mark
fresh_unmarked shared o fresh = grind arith

stale_is_marked : (shared : ServerState) (o : ObserverValue) → is_stale shared o ≡ is_some (changed_mark shared o)
unfolding changed_mark
stale_is_marked shared o = grind arith

-- ---- the first changed mark

first_marked : (shared : ServerState) (os : List ObserverValue)
    → first_index is_some (map (changed_mark shared) os) ≡ first_index (is_stale shared) os
unfolding first_index changed_mark
first_marked shared [] = refl
first_marked shared (o ∷ os) = grind (arith, first_marked shared os)

pub marked_is_stale : (shared : ServerState) (os : List ObserverValue) (marks : List (Option ℕ)) (found : StaleObserver)
    → AreMarked shared os marks → IsFirstMarked marks found → IsFirstStale shared os found
unfolding changed_mark
marked_is_stale shared os marks found marked is = record {
  first = cc (first_marked shared os);
  mark = λ o at. grind (arith, slice_get-map (changed_mark shared) os found.index);
}

pub unmarked_is_reported : (shared : ServerState) (os : List ObserverValue) (marks : List (Option ℕ))
    → AreMarked shared os marks → first_index is_some marks ≡ None → first_index (is_stale shared) os ≡ None
unmarked_is_reported shared os marks marked none = cc (first_marked shared os)

-- ---- entries that are added, removed or notified

pub notified_marked : (shared : ServerState) (os : List ObserverValue) (marks : List (Option ℕ)) (i : ℕ)
    (o : ObserverValue) → AreMarked shared os marks → changed_mark shared o ≡ None
    → AreMarked shared (slice_set os i o) (slice_set marks i None)
notified_marked shared os marks i o marked none = cc (map-set (changed_mark shared) os i o)

-- An observer that was just notified has no changed mark.
pub notified_unmarked : (shared : ServerState) (o : ObserverValue) (mark : ℕ)
    → goes_on (notification_of shared.store shared.now o.path o.format) ≡ true
    → mark ≡ mark_of shared.now (state_on shared o.path) → changed_mark shared (record o { mark = mark }) ≡ None
notified_unmarked shared o mark goes is =
    let reports = notification_reports shared.store shared.now o.path o.format (eqb-true _ code.content goes) in
    rw is (fresh_unmarked shared _ (marked_now shared o reports.representation reports.there))

pub gone_marked : (shared : ServerState) (os : List ObserverValue) (marks : List (Option ℕ)) (i : ℕ)
    → AreMarked shared os marks → AreMarked shared (remove os i) (remove marks i)
gone_marked shared os marks i marked = cc (map-remove (changed_mark shared) os i)

pub entered_marked : (shared : ServerState) (os : List ObserverValue) (marks : List (Option ℕ)) (o : ObserverValue)
    → AreMarked shared os marks → changed_mark shared o ≡ None → AreMarked shared (os ++ o ∷ []) (marks ++ None ∷ [])
entered_marked shared os marks o marked none = cc (map_push (changed_mark shared) os o)

pub left_marked_by : (shared : ServerState) (l : LinkValue) (o p : ObserversValue) → p ≡ observers_left l o
    → AreMarked shared o.entries o.marks → AreMarked shared p.entries p.marks
left_marked_by shared l o p is marked = grind arith

-- ---- recomputed marks

-- All marks are current in the new server state if those of unaffected observers are the same in both states.
pub anew_after : (why : Cause) (before after : ServerState) (os : List ObserverValue)
    → ((o : ObserverValue) → is_concerned why o ≡ false → changed_mark before o ≡ changed_mark after o)
    → marks_anew why after os (map (changed_mark before) os) ≡ map (changed_mark after) os
unfolding marks_anew
anew_after why before after [] same = refl
anew_after why before after (o ∷ os) same = grind (arith, same o, anew_after why before after os same)

pub none_concerned : (why : Cause) (o : ObserverValue) (os : List ObserverValue) → ConcernsNone why (o ∷ os)
    → (is_concerned why o ≡ false) × ConcernsNone why os
none_concerned (cause.Path hash) o os none = (ne_eqb (path_hash o.path) hash none.0, none.1)
none_concerned (cause.Moment before) o os none = or_parts (is_time_observer o) (list_any is_time_observer os) none

pub anew_unconcerned : (why : Cause) (shared : ServerState) (os : List ObserverValue) (marks : List (Option ℕ))
    → ConcernsNone why os → marks_anew why shared os marks ≡ marks
unfolding marks_anew
anew_unconcerned why shared [] marks none = refl
anew_unconcerned why shared (o ∷ os) [] none = refl
anew_unconcerned why shared (o ∷ os) (mark ∷ marks) none =
    let parts = none_concerned why o os none in
    rw (parts.0, anew_unconcerned why shared os marks parts.1) refl

-- No observer is stale if none was and the change affects none.
pub none_stale_after : (why : Cause) (before after : ServerState) (os : List ObserverValue)
    → ((o : ObserverValue) → is_concerned why o ≡ false → changed_mark before o ≡ changed_mark after o)
    → ConcernsNone why os → find (is_stale before) os ≡ None → find (is_stale after) os ≡ None
none_stale_after why before after [] same none fresh = refl
none_stale_after why before after (o ∷ os) same none fresh =
    let parts = none_concerned why o os none in
    grind (
      arith,
      same o parts.0,
      stale_is_marked before o,
      stale_is_marked after o,
      none_stale_after why before after os same parts.1,
    )
