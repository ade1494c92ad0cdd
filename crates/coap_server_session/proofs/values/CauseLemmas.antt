-- A change of a path or of the time leaves the connections settled that it does not affect. These lemmas also give the
-- marks that it recomputes.
use Rattle.std.proofs.Common.{◌≡◌, ◌≢◌, ℕ, false, List, Option, Some, is_some, refl, ap, ◌∙◌, arith, map}
use Rattle.coap_store.proofs.AnswerLaws.{key_is}
use Rattle.coap_store.proofs.ChangeLaws.{other_is_kept_on_put, other_is_kept_on_delete}
use Rattle.coap_server_session.specs.Prelude.{Path, StoreValue, found_in, key_for, state_at, Change, Nothing, Put}
use Rattle.coap_server_session.specs.Prelude.{Delete, changed, changes, IsStore, ServerState, Cause, ObserverValue}
use Rattle.coap_server_session.specs.Prelude.{SessionValue, is_stale, shared_changed, IsSettled, path_hash, change_hash}
use Rattle.coap_server_session.specs.Prelude.{ObservesNone, changed_mark, MarkedSession, IsMarked, is_concerned}
use Rattle.coap_server_session.specs.Prelude.{AreMarked, marks_after, ConcernsNone, marks_anew, IsMarkedBut}
use Rattle.coap_server_session.specs.declared.cause.Cause.TheVariants as cause
use Rattle.coap_server_session.proofs.values.DueLemmas.{at_moment, mark_later}
use Rattle.coap_server_session.proofs.values.MarkLemmas.{anew_after, anew_unconcerned, none_stale_after}
use Rattle.coap_server_session.proofs.values.SettleLemmas.{settled_still}

-- ---- the hash of a change

pub hash_where_changed : (c : Change) → is_some (change_hash c) ≡ changes c
hash_where_changed Nothing = refl
hash_where_changed (Put path format bytes) = refl
hash_where_changed (Delete path) = refl

-- The resource at a path with another hash is unchanged.
kept_elsewhere : (s : StoreValue) (c : Change) (hash : ℕ) → change_hash c ≡ Some hash → (q : Path) → path_hash q ≢ hash
    → found_in (changed s c).resources q ≡ found_in s.resources q
kept_elsewhere s Nothing hash is q other = absurd cc
kept_elsewhere s (Put path format bytes) hash is q other = other_is_kept_on_put s path q format bytes (λ e. other cc)
kept_elsewhere s (Delete path) hash is q other = other_is_kept_on_delete s path q (λ e. other cc)

-- ---- a state that did not change

-- An observer that the change does not affect keeps its changed mark.
mark_elsewhere : (shared : ServerState) (c : Change) (hash : ℕ) (o : ObserverValue) → change_hash c ≡ Some hash
    → is_concerned (cause.Path hash) o ≡ false → changed_mark shared o ≡ changed_mark (shared_changed shared c) o
unfolding changed_mark is_stale state_at
mark_elsewhere shared c hash o is other =
    let apart : path_hash o.path ≢ hash = λ same. grind arith in
    let kept = λ (q : Path) (e : key_for o.path ≡ Some q).
    kept_elsewhere shared.store c hash is q (λ same. apart (ap path_hash (key_is o.path q e).1 ∙ same)) in
    grind (arith, kept)

pub settled_elsewhere : (shared : ServerState) (c : Change) (hash : ℕ) (v : SessionValue) → change_hash c ≡ Some hash
    → ObservesNone hash v.observers → IsSettled shared v → IsSettled (shared_changed shared c) v
settled_elsewhere shared c hash v is others =
    settled_still shared (shared_changed shared c) v (λ none. none)
    (none_stale_after (cause.Path hash) shared (shared_changed shared c) v.observers
    (λ o. mark_elsewhere shared c hash o is) others)

-- ---- recomputed marks

-- The marks of observers after a change.
anew_changed : (shared : ServerState) (c : Change) (hash : ℕ) (os : List ObserverValue) (marks : List (Option ℕ))
    → change_hash c ≡ Some hash → AreMarked shared os marks
    → marks_anew (cause.Path hash) (shared_changed shared c) os marks ≡ map (changed_mark (shared_changed shared c)) os
anew_changed shared c hash os marks is marked =
    rw marked (anew_after (cause.Path hash) shared (shared_changed shared c) os
    (λ o. mark_elsewhere shared c hash o is))

pub but_changed : (shared : ServerState) (c : Change) (hash : ℕ) (s : MarkedSession) → change_hash c ≡ Some hash
    → IsMarked shared s → IsMarkedBut (cause.Path hash) (shared_changed shared c) s
but_changed shared c hash s = anew_changed shared c hash s.session.observers s.marks

-- The same, after a change or none.
pub marked_after : (shared : ServerState) (c : Change) (os : List ObserverValue) (marks : List (Option ℕ))
    → AreMarked shared os marks
    → marks_after (change_hash c) (shared_changed shared c) os marks ≡ map (changed_mark (shared_changed shared c)) os
marked_after shared Nothing os marks marked = marked
marked_after shared (Put path format bytes) os marks marked =
    anew_changed shared (Put path format bytes) (path_hash path) os marks refl marked
marked_after shared (Delete path) os marks marked =
    anew_changed shared (Delete path) (path_hash path) os marks refl marked

pub but_later : (shared : ServerState) (later before : ℕ) (s : MarkedSession) → IsStore shared.store → IsMarked shared s
    → IsMarkedBut (cause.Moment before) (at_moment shared later) s
but_later shared later before s store marked =
    rw marked (anew_after (cause.Moment before) shared (at_moment shared later) s.session.observers
    (λ o. mark_later shared later o store))

-- Current marks need no recomputation.
pub but_none : (why : Cause) (shared : ServerState) (s : MarkedSession) → IsMarked shared s → IsMarkedBut why shared s
but_none why shared s marked = rw marked (anew_after why shared shared s.session.observers (λ o _. refl))

pub marked_untouched : (why : Cause) (shared : ServerState) (s : MarkedSession) → ConcernsNone why s.session.observers
    → IsMarkedBut why shared s → IsMarked shared s
marked_untouched why shared s none but = cc (anew_unconcerned why shared s.session.observers s.marks none)
