-- After settling, no pending entry is due and no observer is stale, or the queue has no room.
use Rattle.std.proofs.Common.{◌≡◌, ℕ, zero, suc, ◌+◌, ◌≤◌, Bool, true, false, ◌&&◌, List, [], ◌∷◌, length, Some, None}
use Rattle.std.proofs.Common.{refl, sym, arith, ◌||◌, find, is_some}
use Rattle.std.proofs.lemmas.Bool.{eqb-true, and_parts}
use Rattle.coap_wire.specs.Codes as code
use Rattle.coap_conn.specs.Calls as call
use Rattle.coap_conn.specs.PendingEntries.{due_index}
use Rattle.coap_conn.proofs.PendingLaws.{due_fewer}
use Rattle.coap_store.proofs.NotificationLaws.{notification_reports}
use Rattle.coap_model.proofs.OptionLemmas.{some_where}
use Rattle.coap_model.proofs.world.EntryLemmas.{count_due, count_within, none_counted, count_less}
use Rattle.coap_model.proofs.world.SideLaws.{send_pending, due_pending}
use Rattle.coap_model.proofs.world.WalkLaws.{there_or_not}
use Rattle.coap_server_session.specs.Prelude.{Message, fit, bare_response, PendingEntryValue, Answer, Pong, first_due}
use Rattle.coap_server_session.specs.Prelude.{state_due, link_after, LinkValue, limit_in, state_in, Representation}
use Rattle.coap_server_session.specs.Prelude.{notification_of, ServerState, late_message, goes_on, is_whole}
use Rattle.coap_server_session.specs.Prelude.{first_becomes, ObserverValue, SessionValue, mark_of, state_on, is_stale}
use Rattle.coap_server_session.specs.Prelude.{session_ready, session_with, observers_on, entry_left, notification_on}
use Rattle.coap_server_session.specs.Prelude.{session_notified, next_pending_in, next_stale, link_sent}
use Rattle.coap_server_session.specs.Prelude.{session_settled_so, session_settled_once, session_settled_within}
use Rattle.coap_server_session.specs.Prelude.{session_settled, session_written, IsSettled}

-- ---- the number of pending entries

pub reply_pending : (l : LinkValue) (m : Message) → length (link_after l (call.Reply m)).pending ≤ length l.pending
reply_pending l m =
    grind (arith, send_pending (state_in l) m (bare_response m) (fit (limit_in l) m (bare_response m)))

-- An iteration that finds a due entry leaves fewer entries.
pub fewer_pending : (l : LinkValue) (now : ℕ) (e : PendingEntryValue) → first_due now l.pending ≡ Some e
    → length (link_sent l now e).pending + 1 ≤ length l.pending
fewer_pending l now e found =
    let out = due_pending (state_due now (state_in l)) (first_due now l.pending) in
    omega (arith, sent e, out, due_fewer now l.pending e found)
  where
    sent : (e : PendingEntryValue)
        → length (link_sent l now e).pending ≤ length (link_after l (call.Due now)).pending
    sent (Answer by token moment) = reply_pending (link_after l (call.Due now)) (late_message by token)
    sent (Pong token) = omega arith

-- ---- one iteration

-- An observer that was sent the current state is not stale.
pub marked_now : (shared : ServerState) (o : ObserverValue) (r : Representation) → state_on shared o.path ≡ Some r
    → is_stale shared (record o { mark = mark_of shared.now (state_on shared o.path) }) ≡ false
unfolding is_stale
marked_now shared o r there = grind arith

-- The entry that remains of a notified observer is not stale, since a 2.05 reports the current state.
left_is_reported : (shared : ServerState) (o : ObserverValue) (whole stays : Bool)
    → stays ≡ (goes_on (notification_of shared.store shared.now o.path o.format) && whole)
    → count_due (is_stale shared) (entry_left shared o stays) ≡ 0
unfolding count_due
left_is_reported shared o whole true is =
    let reports = notification_reports shared.store shared.now o.path o.format
    (eqb-true _ code.content (and_parts _ whole (sym is)).0) in
    rw (marked_now shared o reports.representation reports.there) refl
left_is_reported shared o whole false is = refl

-- Removing the observers of a connection that is not open adds no stale one.
fewer_open : (shared : ServerState) (l : LinkValue) (os : List ObserverValue)
    → count_due (is_stale shared) (observers_on l os) ≤ count_due (is_stale shared) os
unfolding count_due
fewer_open shared l os = grind arith

-- An iteration that finds a stale observer leaves fewer.
fewer_stale : (shared : ServerState) (v : SessionValue) (o : ObserverValue) → find (is_stale shared) v.observers
    ≡ Some o
    → count_due (is_stale shared) (session_notified shared v (Some o)).observers + 1
    ≤ count_due (is_stale shared) v.observers
fewer_stale shared v o first =
    let m = notification_on shared o in
    let whole = is_whole (fit (limit_in v.link) m (bare_response m)) in
    let left = entry_left shared o (goes_on (notification_of shared.store shared.now o.path o.format) && whole) in
    omega (
      arith,
      count_less (is_stale shared) v.observers o left (left_is_reported shared o whole _ refl) first,
      fewer_open shared (link_after v.link (call.Reply m)) (first_becomes (is_stale shared) left v.observers),
    )

module _ (shared : ServerState) (v : SessionValue) where
  -- An iteration sends an entry, or notifies an observer, or finds nothing.
  pub once_cases : (P : SessionValue → Type 0)
      → ((e : PendingEntryValue) → first_due shared.now v.link.pending ≡ Some e
      → P (session_with v.frame (link_sent v.link shared.now e) v.observers))
      → ((o : ObserverValue) → find (is_stale shared) v.observers ≡ Some o → P (session_notified shared v (Some o)))
      → (IsSettled shared v → P v) → P (session_settled_once shared v)
  unfolding session_settled_once next_pending_in next_stale
  once_cases P sends notifies rests =
      there_or_not (next_pending_in shared.now v) (λ due. P (session_settled_so shared v due))
      (λ silent. there_or_not (next_stale shared v) (λ next. P (session_notified shared v next))
      (λ fresh. rests (silent, fresh)) (λ o found. notifies o (some_where (session_ready v) _ o found)))
      (λ e found. sends e (some_where (session_ready v) _ e found))

  -- ---- all iterations

  -- If nothing is left to settle, an iteration does nothing.
  pub stays_once : IsSettled shared v → session_settled_once shared v ≡ v
  unfolding session_settled_once
  stays_once settled = rw (settled.0, settled.1) refl

  pub stays_within : (turns : ℕ) → IsSettled shared v
      → session_settled_within turns shared v ≡ v
  unfolding session_settled_within
  stays_within zero settled = refl
  stays_within (suc turns) settled = rw (stays_once settled) (stays_within turns settled)

  -- Settling a settled connection changes nothing.
  pub settled_stays : IsSettled shared v → session_settled shared v ≡ v
  unfolding session_settled
  settled_stays settled = stays_within (length v.link.pending + length v.observers) settled

  -- ---- conditions for a settled connection

  -- A connection is settled if no pending entry is due and no observer is stale.
  pub settled_quiet : first_due shared.now v.link.pending ≡ None
      → find (is_stale shared) v.observers ≡ None → IsSettled shared v
  unfolding next_pending_in next_stale
  settled_quiet none fresh = grind arith

  -- A connection is settled if its queue has no room.
  pub settled_unready : session_ready v ≡ false → IsSettled shared v
  unfolding next_pending_in next_stale
  settled_unready full = rw full (refl, refl)

  -- If the queue has room, the first due entry and the first stale observer are found.
  pub found_ready : session_ready v ≡ true
      → (next_pending_in shared.now v ≡ first_due shared.now v.link.pending)
      × (next_stale shared v ≡ find (is_stale shared) v.observers)
  unfolding next_pending_in next_stale
  found_ready ready = rw ready (refl, refl)

  -- If the queue had room, nothing was due, so nothing is due after the write either.
  pub settled_where_room : (n : ℕ) → session_ready v ≡ true → IsSettled shared v
      → IsSettled shared (session_written v n)
  unfolding next_pending_in next_stale
  settled_where_room n ready settled = grind arith

-- A settled connection stays settled in another server state in which nothing more is due or stale.
pub settled_still : (shared after : ServerState) (v : SessionValue)
    → (first_due shared.now v.link.pending ≡ None → first_due after.now v.link.pending ≡ None)
    → (find (is_stale shared) v.observers ≡ None → find (is_stale after) v.observers ≡ None)
    → IsSettled shared v → IsSettled after v
unfolding next_pending_in next_stale
settled_still shared after v none fresh settled = grind arith

-- If no entry is pending, none is due.
pub none_is_pending : (now : ℕ) (pending : List PendingEntryValue) → length pending ≤ 0 → first_due now pending ≡ None
unfolding first_due due_index
none_is_pending now [] few = refl
none_is_pending now (e ∷ pending) few = absurd (omega arith)

-- ---- the number of iterations

-- As many iterations as there are pending entries and stale observers suffice, since each leaves fewer of them.
enough_turns : (shared : ServerState) (turns : ℕ) (v : SessionValue)
    → length v.link.pending + count_due (is_stale shared) v.observers ≤ turns
    → IsSettled shared (session_settled_within turns shared v)
unfolding session_settled_within
enough_turns shared zero v many =
    settled_quiet shared v (none_is_pending shared.now v.link.pending (omega (arith, many)))
    (none_counted (is_stale shared) v.observers (omega (arith, many)))
enough_turns shared (suc turns) v many =
    once_cases shared v (λ w. IsSettled shared (session_settled_within turns shared w))
    (λ e found. enough_turns shared turns (session_with v.frame (link_sent v.link shared.now e) v.observers) (omega (
      arith,
      fewer_pending v.link shared.now e found,
      fewer_open shared (link_sent v.link shared.now e) v.observers,
      many,
    )))
    (λ o found. enough_turns shared turns (session_notified shared v (Some o)) (omega (
      arith,
      fewer_stale shared v o found,
      reply_pending v.link (notification_on shared o),
      many,
    )))
    (λ settled. rw (stays_within shared v turns settled) settled)

-- A connection that settled is settled.
pub settled_is_settled : (shared : ServerState) (v : SessionValue) → IsSettled shared (session_settled shared v)
unfolding session_settled
settled_is_settled shared v =
    enough_turns shared (length v.link.pending + length v.observers) v
    (omega (arith, count_within (is_stale shared) v.observers))

-- ---- the loop

-- If an iteration finds nothing, the remaining iterations change nothing.
pub last_turn : (shared : ServerState) (v after : SessionValue) (turns : ℕ) → after ≡ session_settled_once shared v
    → false ≡ (is_some (next_pending_in shared.now v) || is_some (next_stale shared v))
    → after ≡ session_settled_within turns shared v
last_turn shared v after turns is none =
    let settled : IsSettled shared v = grind arith in
    rw (is, stays_once shared v settled, stays_within shared v turns settled) refl
