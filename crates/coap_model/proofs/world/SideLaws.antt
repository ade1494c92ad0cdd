-- A connection of the world: facts on it, its observers after a message, and how it settles.
use Rattle.std.proofs.Common.{◌≡◌, ℕ, ◌+◌, ◌<◌, ◌≤◌, Bool, true, cond, List, [], length, Option, Some, None, refl}
use Rattle.std.proofs.Common.{arith, zero, suc, ◌∷◌, ◌++◌, ◌⊎◌, find}
use Rattle.coap_model.specs.Prelude.{AllByRecursion, filter_map, Message, takes_messages, PendingEntryValue, first_due}
use Rattle.coap_model.specs.Prelude.{without_due, due_moment, due_index, NothingIsDue, History, IsHistory, after}
use Rattle.coap_model.specs.Prelude.{StoreValue, path_of, prompt_answer, Change, changed, Connection, handles, has_room}
use Rattle.coap_model.specs.Prelude.{side_with, with_history, side_answered, moment_after, Delay, hold_call, delay_for}
use Rattle.coap_model.specs.Prelude.{side_replied, side_after, next_due, notified, next_pending, after_sent}
use Rattle.coap_model.specs.Prelude.{settled_once, settled_within, settled, IsUpToDate, Observer, without_token}
use Rattle.coap_model.specs.Prelude.{entry_for, is_due, goes_on, notification, left_of, first_becomes, Reply}
use Rattle.coap_model.specs.Prelude.{ConnectionState, send_as, due_effect, side_responded}
use Rattle.std.proofs.lemmas.Bool.{ltb-true}
use Rattle.coap_conn.proofs.PendingLaws.{due_fewer, due_nothing}
use Rattle.coap_model.proofs.world.KnownLaws.{entry_watchable, IsKnown, IsVersioned, still_known, sent_known, sent_now}
use Rattle.coap_model.proofs.world.KnownLaws.{not_due, left_watchable}
use Rattle.coap_model.proofs.world.EntryLemmas.{asks_to_enter, all_to, all_append, all_filter, all_become, found_all}
use Rattle.coap_model.proofs.world.EntryLemmas.{none_due, count_due, count_within, count_less, none_found}
use Rattle.coap_model.proofs.world.GoingOn.{as_before, further, GoesOn, all_go_on, plain_goes_on}
use Rattle.coap_model.proofs.world.WalkLaws.{kept_open_has, once_between, PlainCall, observers_plain}
use Rattle.coap_model.proofs.world.WalkLaws.{observers_responded, settled_keeps, responded_between}
use Rattle.coap_model.proofs.world.AcrossLaws.{after_all}
use Rattle.coap_conn.specs.Calls as call
use Rattle.coap_store.specs.declared.plan.Watch.TheVariants as watch

-- Each observer was last sent a state that its path had.
abbrev pub AreKnown : StoreValue → List Observer → Type 0
AreKnown store observers = AllByRecursion (IsKnown store) observers

-- The facts on a connection.
pub record IsKnownSide (store : StoreValue) (s : Connection) : Type 0 where
  pub is_history : IsHistory s.history
  pub reported : AreKnown store s.observers

-- ---- its parts

pub handles_parts : (s : Connection) → handles s ≡ true → (takes_messages s.history.phase ≡ true) × (has_room s ≡ true)
handles_parts s e = grind arith

-- A request whose response is delayed, and one whose response is sent at once.
pub replied_cases : (store : StoreValue) (now : ℕ) (h : History) (others : List Observer) (m : Message)
    (delay : Option Delay) (P : Connection → Type 0)
    → ((d : Delay) → delay_for h delay ≡ Some d
    → P (side_with (after h (hold_call d.by m.token (moment_after now d.seconds))) others))
    → (delay_for h delay ≡ None → P (side_answered store now h others m (prompt_answer store now m)))
    → P (side_replied store now h others m (delay_for h delay))
replied_cases store now h others m delay P pending prompt = grind arith

-- ---- one round of settling

-- A due pending entry is sent first; if there is none, an observer is notified.
pub settled_cases : (store : StoreValue) (now : ℕ) (s : Connection) (P : Connection → Type 0)
    → ((e : PendingEntryValue) → next_pending now s ≡ Some e → P (with_history s (after_sent s.history now e)))
    → (next_pending now s ≡ None → P (notified store now s (next_due store now s)))
    → P (settled_once store now s)
unfolding settled_once
settled_cases store now s P sends reports = grind arith

pub pending_room : (now : ℕ) (s : Connection) (e : PendingEntryValue) → next_pending now s ≡ Some e
    → (has_room s ≡ true) × (first_due now s.history.pending ≡ Some e)
pending_room now s e is = grind arith

-- Sending a message adds no pending entry.
pub send_pending : (s : ConnectionState) (m less : Message) (r : Reply)
    → length (send_as s m less r).pending ≤ length s.pending
send_pending s m less r = grind arith

-- Sending the entry that was due first adds none either.
pub due_pending : (s : ConnectionState) (e : Option PendingEntryValue)
    → length (due_effect s e).pending ≤ length s.pending
due_pending s e = grind (arith, send_pending)

reply_leaves : (h : History) (m : Message) → length (after h (call.Reply m)).pending ≤ length h.pending
reply_leaves h m =
    grind (arith, send_pending)

sent_leaves : (h : History) (now : ℕ) (e : PendingEntryValue)
    → length (after_sent h now e).pending ≤ length (without_due now h.pending)
sent_leaves h now e = grind (arith, reply_leaves, due_pending)

-- ---- the facts are kept

-- Any change of the store keeps them.
pub still_known_side : (store : StoreValue) (change : Change) (s : Connection) → IsVersioned store → IsKnownSide store s
    → IsKnownSide (changed store change) s
still_known_side store change s is known =
    grind (arith, all_to, still_known)

-- All effects other than messages keep them.
pub plain_known : (store : StoreValue) (s t : Connection) → PlainCall s t → IsKnownSide store s → IsKnownSide store t
plain_known store s t call known =
    grind (arith, plain_goes_on s t call, observers_plain (AreKnown store) tt s t call known.reported)

pub responded_known : (store : StoreValue) (s : Connection) (m : Message) → IsKnownSide store s
    → IsKnownSide store (side_responded s m)
responded_known store s m known =
    grind (arith, responded_between GoesOn as_before all_go_on.responds s m, observers_responded (AreKnown store) tt)

-- A property of the observers after a message. It must hold of no observers, and of the observers before. It must also
-- hold of those without the message's token, and of these with its entry if there is a place for it.
pub observers_after : (P : List Observer → Type 0) (store : StoreValue) (now : ℕ) (s : Connection) (m : Message) → P []
    → P s.observers → P (without_token m.token s.observers)
    → ((prompt_answer store now m).watch ≡ watch.Add
    → length (without_token m.token s.observers) < (after s.history (call.Handle m)).limits.observers
    → P (without_token m.token s.observers ++ entry_for store now m ∷ []))
    → P (side_after store now s m).observers
unfolding side_after
observers_after P store now s m none same others entered =
    grind (arith, asks_to_enter, ltb-true, replied_cases store now, kept_open_has P none)

-- A message keeps the facts, before it changes the store.
pub after_known : (store : StoreValue) (now : ℕ) → now ≤ 18446744073709551615 → IsVersioned store
    → (s : Connection) (m : Message) → IsKnownSide store s → IsKnownSide store (side_after store now s m)
unfolding without_token
after_known store now small is s m known =
    grind (
      arith,
      all_filter (IsKnown store),
      after_all GoesOn all_go_on store now s m,
      observers_after (AreKnown store) store now s m tt known.reported,
      all_append (IsKnown store),
      sent_known store now m.token (path_of m) small is,
      entry_watchable store now m,
    )

-- ---- settling of a connection: the facts are kept, and no change is lost

-- Nothing is left to settle: no pending entry and no observer is due, or there is no room.
abbrev pub IsAtRest : StoreValue → ℕ → Connection → Type 0
IsAtRest store now s = (next_pending now s ≡ None) × (next_due store now s ≡ None)

-- ---- one round

pub next_due_found : (store : StoreValue) (now : ℕ) (s : Connection) (o : Observer) → next_due store now s ≡ Some o
    → find (is_due store now) s.observers ≡ Some o
next_due_found store now s o e = grind arith

-- A property of the observers after a round. It must hold of no observers, of the observers before, and of those after
-- the first due one was notified.
pub observers_settled : (P : List Observer → Type 0) (store : StoreValue) (now : ℕ) (s : Connection)
    → P [] → P s.observers
    → ((o : Observer) (stays : Bool) → next_due store now s ≡ Some o
    → (stays ≡ true → goes_on (notification store now o) ≡ true)
    → P (first_becomes (is_due store now) (left_of store now o stays) s.observers))
    → P (settled_once store now s).observers
observers_settled P store now s none same reported =
    settled_cases store now s (λ t. P t.observers)
    (λ e is. kept_open_has P none (after_sent s.history now e) s.observers same) (λ rests.
    grind (arith, kept_open_has))

-- ---- facts

module _ (store : StoreValue) (now : ℕ) (small : now ≤ 18446744073709551615) (is : IsVersioned store) where
  left_all : (o : Observer) (stays : Bool) → IsKnown store o
      → (stays ≡ true → goes_on (notification store now o) ≡ true) → AreKnown store (left_of store now o stays)
  left_all o stays known on = grind (arith, sent_known, left_watchable)

  -- The first due observer is one of the observers.
  pub next_known : (s : Connection) → IsKnownSide store s → (o : Observer)
      → next_due store now s ≡ Some o → IsKnown store o
  next_known s known o e = grind (arith, found_all, next_due_found)

  pub once_known : (s : Connection) → IsKnownSide store s → IsKnownSide store (settled_once store now s)
  once_known s known = record {
    is_history =
        (once_between GoesOn GoesOn as_before further all_go_on.replies all_go_on.lets_go all_go_on.pongs store now
        s).history known.is_history;
    reported = observers_settled (AreKnown store) store now s tt known.reported (λ o stays due on.
        grind (arith, all_become, left_all o stays (next_known s known o due) on));
  }

  pub settled_known : (s : Connection) → IsKnownSide store s → IsKnownSide store (settled store now s)
  settled_known = settled_keeps (IsKnownSide store) store now once_known

-- ---- nothing is left that is due

count_if : (due : Observer → Bool) (b : Bool) (os : List Observer) → count_due due (cond b os []) ≤ count_due due os
unfolding count_due
count_if due b os = grind (arith, count_due)

-- The updated entry of a notified observer is not due.
left_quiet : (store : StoreValue) (now : ℕ) (o : Observer) (stays : Bool)
    → count_due (is_due store now) (left_of store now o stays) ≡ 0
unfolding count_due
left_quiet store now o stays = grind (arith, not_due)

-- If nothing is left to settle, further rounds change nothing.
pub at_rest : (turns : ℕ) (store : StoreValue) (now : ℕ) (s : Connection) → IsAtRest store now s
    → settled_within turns store now s ≡ s
unfolding settled_within settled_once
at_rest zero store now s rests = refl
at_rest (suc turns) store now s rests = rw (rests.0, rests.1) (at_rest turns store now s rests)

-- The number of pending entries and due observers of a connection.
abbrev pub left_on : StoreValue → ℕ → Connection → ℕ
left_on store now s = length s.history.pending + count_due (is_due store now) s.observers

-- A round sends nothing, or the number decreases.
pub once_less : (store : StoreValue) (now : ℕ) (s : Connection)
    → IsAtRest store now s ⊎ (left_on store now (settled_once store now s) + 1 ≤ left_on store now s)
unfolding settled_once
once_less store now s =
    grind (arith, count_less, left_quiet, next_due_found, reply_leaves, count_if, due_fewer, pending_room, sent_leaves)

rests_by : (turns : ℕ) (store : StoreValue) (now : ℕ) (s : Connection) → left_on store now s ≤ turns
    → IsAtRest store now (settled_within turns store now s)
unfolding settled_within
rests_by zero store now s few = grind (arith, once_less store now s)
rests_by (suc turns) store now s few =
    grind (
      arith,
      once_less store now s,
      at_rest (suc turns) store now s,
      rests_by turns store now (settled_once store now s),
    )

-- Each round leaves fewer pending entries or due observers, so in the end nothing is left to settle.
pub settled_rests : (store : StoreValue) (now : ℕ) (s : Connection) → IsAtRest store now (settled store now s)
unfolding settled
settled_rests store now s =
    rests_by (length s.history.pending + length s.observers) store now s
    (omega (arith, count_within (is_due store now) s.observers))

-- No change is lost: if there is room, each observer was last sent the current state, and no pending entry is due.
pub hears_at_rest : (store : StoreValue) (now : ℕ) (s : Connection) → IsAtRest store now s → IsUpToDate store now s
hears_at_rest store now s rests =
    grind (
      arith,
      all_to,
      sent_now store now,
      none_due (is_due store now) s.observers,
      due_nothing now s.history.pending,
    )

-- If no entry of a list is due, the list of due times is empty.
none_come_listed : (now : ℕ) (pending : List PendingEntryValue) → AllByRecursion (λ e. due_moment now e ≡ None) pending
    → filter_map (due_moment now) pending ≡ []
none_come_listed now [] none = refl
none_come_listed now (e ∷ pending) none = rw none.0 (none_come_listed now pending none.1)

pub nothing_due_first : (now : ℕ) (pending : List PendingEntryValue) → NothingIsDue now pending
    → first_due now pending ≡ None
unfolding first_due due_index
nothing_due_first now pending none = grind (arith, none_come_listed)

pub hears_sent : (store : StoreValue) (now : ℕ) (s : Connection) → IsUpToDate store now s → next_pending now s ≡ None
hears_sent store now s takes_input = grind (arith, nothing_due_first)

-- A connection on which no change is lost has nothing to settle.
pub side_at_rest_stays : (store : StoreValue) (now : ℕ) (s : Connection) → IsUpToDate store now s
    → settled store now s ≡ s
unfolding settled
side_at_rest_stays store now s takes_input =
    grind (arith, all_to, not_due, none_found, at_rest, hears_sent)
