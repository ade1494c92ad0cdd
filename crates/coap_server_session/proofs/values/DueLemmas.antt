-- On a settled connection, nothing becomes due before its next deadline.
use Rattle.std.proofs.Common.{◌≡◌, ℕ, ◌<◌, ◌≤◌, ◌^◌, false, List, [], ◌∷◌, Option, Some, None, min, arith, fold}
use Rattle.coap_conn.proofs.PendingLaws.{due_nothing, cons_parts}
use Rattle.coap_store.proofs.StoreLemmas.{found_kept}
use Rattle.coap_model.proofs.world.SideLaws.{nothing_due_first}
use Rattle.coap_server_session.specs.Prelude.{AllByRecursion, list_any, filter_map, reduce, PendingEntryValue}
use Rattle.coap_server_session.specs.Prelude.{due_moment, future_moment, next_moment, first_due, Path, Representation}
use Rattle.coap_server_session.specs.Prelude.{StoreValue, key_for, stored_at, state_at, IsStore, ServerState}
use Rattle.coap_server_session.specs.Prelude.{ObserverValue, SessionValue, is_stale, IsSettled, changed_mark, sooner}
use Rattle.coap_server_session.specs.Prelude.{is_time_observer, next_notified, due_on, IsBefore}
use Rattle.coap_server_session.specs.declared.cause.Cause.TheVariants as cause
use Rattle.coap_server_session.proofs.values.MarkLemmas.{none_stale_after}
use Rattle.coap_server_session.proofs.values.SettleLemmas.{settled_still}

abbrev pub at_moment : ServerState → ℕ → ServerState
at_moment shared later = record shared { now = later }

-- ---- the earlier of two times

before_both : (later : ℕ) (a b : Option ℕ) → IsBefore later (sooner a b) → IsBefore later a × IsBefore later b
before_both later a b h = grind arith

-- A time before the minimum is before each.
before_fold : (later a : ℕ) (xs : List ℕ) → later < fold min a xs → (later < a) × AllByRecursion (λ x. later < x) xs
before_fold later a [] h = (h, tt)
before_fold later a (x ∷ xs) h =
    let rest = before_fold later (min a x) xs h in (omega (arith, rest.0), (omega (arith, rest.0), rest.1))

before_each : (later : ℕ) (xs : List ℕ) → IsBefore later (reduce min xs) → AllByRecursion (λ x. later < x) xs
before_each later [] h = tt
before_each later (x ∷ xs) h = before_fold later x xs h

-- ---- pending entries

-- A response that is not due yet is not due later either, if the later time is before its deadline.
not_come : (now later : ℕ) (e : PendingEntryValue) → due_moment now e ≡ None
    → ((m : ℕ) → future_moment now e ≡ Some m → later < m) → due_moment later e ≡ None
not_come now later e none after = grind (arith, after)

none_come_later : (now later : ℕ) (pending : List PendingEntryValue)
    → AllByRecursion (λ e. due_moment now e ≡ None) pending
    → AllByRecursion (λ x. later < x) (filter_map (future_moment now) pending)
    → AllByRecursion (λ e. due_moment later e ≡ None) pending
none_come_later now later [] none after = tt
none_come_later now later (e ∷ pending) none after =
    let parts = cons_parts (λ x. later < x) (future_moment now e) (filter_map (future_moment now) pending) after in
    (not_come now later e none.0 parts.0, none_come_later now later pending none.1 parts.1)

not_due_later : (now later : ℕ) (pending : List PendingEntryValue) → first_due now pending ≡ None
    → IsBefore later (next_moment now pending) → first_due later pending ≡ None
not_due_later now later pending none before =
    let nothing = (due_nothing now pending none).0 in
    nothing_due_first later pending (
      none_come_later now later pending nothing.0 (before_each later (filter_map (future_moment now) pending) before),
      nothing.1,
    )

-- ---- observers

stored_numbered : (s : StoreValue) (key : Option Path) (r : Representation) → IsStore s
    → stored_at s key ≡ Some r → 1 ≤ r.version
stored_numbered s None r store e = absurd cc
stored_numbered s (Some path) r store e = (found_kept s path r store e).numbered

-- A stored representation keeps its mark when the time changes, so its observers keep their changed marks.
pub mark_later : (shared : ServerState) (later : ℕ) (o : ObserverValue) → IsStore shared.store → is_time_observer o
    ≡ false
    → changed_mark shared o ≡ changed_mark (at_moment shared later) o
unfolding changed_mark is_stale state_at
mark_later shared later o store stored =
    let numbered = λ (r : Representation). stored_numbered shared.store (key_for o.path) r store in
    grind (arith, numbered)

-- If an observer observes the time, no later second is before the next one.
none_reports_time_before : (now later : ℕ) (observers : List ObserverValue) → now < later → later < 2 ^ 64
    → IsBefore later (next_notified now observers) → list_any is_time_observer observers ≡ false
none_reports_time_before now later observers more fits before = grind arith

-- ---- a connection

pub stays_settled : (shared : ServerState) (later : ℕ) (v : SessionValue) → IsStore shared.store → IsSettled shared v
    → shared.now < later → later < 2 ^ 64 → IsBefore later (due_on shared.now v) → IsSettled (at_moment shared later) v
stays_settled shared later v store settled more fits before =
    let parts = before_both later (next_moment shared.now v.link.pending) (next_notified shared.now v.observers) before
    in
    let stored = none_reports_time_before shared.now later v.observers more fits parts.1 in
    settled_still shared (at_moment shared later) v (λ none. not_due_later shared.now later v.link.pending none parts.0)
    (none_stale_after (cause.Moment shared.now) shared (at_moment shared later) v.observers
    (λ o. mark_later shared later o store) stored) settled
