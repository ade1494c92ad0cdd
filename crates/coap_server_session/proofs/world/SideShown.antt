-- A connection of the model and the value that represents it change in the same way, in each call and while they
-- settle.
use Rattle.std.proofs.Common.{◌≡◌, ℕ, ◌+◌, ◌≤◌, Bool, true, false, cond, List, [], length, map, Option, Some, None}
use Rattle.std.proofs.Common.{refl, ap, ◌∙◌, ◌&&◌, zero, suc, option_map, arith, inl, inr}
use Rattle.coap_server_session.specs.Prelude.{Message, StreamFault, fit, bare_response, reject_of, release_refusal}
use Rattle.coap_server_session.specs.Prelude.{History, IsHistory, limit_now, after, link_of, Call, link_after}
use Rattle.coap_server_session.specs.Prelude.{LinkValue, StoreValue, path_of, Nothing, prompt_answer, Delay, delay_of}
use Rattle.coap_server_session.specs.Prelude.{hold_call, Responder, Engine, Application, response_with_observe}
use Rattle.coap_server_session.specs.Prelude.{ServerState, is_cut, side_responded, session_given, side_announced}
use Rattle.coap_server_session.specs.Prelude.{may_raise, Connection, handles, waiting_on, side_with, moment_after}
use Rattle.coap_server_session.specs.Prelude.{delay_for, side_replied, asks_answer, side_after, change_after}
use Rattle.coap_server_session.specs.Prelude.{side_faulted, side_written, side_ended, side_released, next_due, notified}
use Rattle.coap_server_session.specs.Prelude.{next_pending, settled_so, settled_once, settled_within, settled}
use Rattle.coap_server_session.specs.Prelude.{SessionValue, session_with, new_entry, delay_in, session_replied}
use Rattle.coap_server_session.specs.Prelude.{session_handled, change_by, session_rejected, session_written}
use Rattle.coap_server_session.specs.Prelude.{session_ended, session_released, session_announced, is_stale, next_stale}
use Rattle.coap_server_session.specs.Prelude.{entry_left, session_notified, next_pending_in, session_settled_so}
use Rattle.coap_server_session.specs.Prelude.{session_settled_once, session_settled_within, session_settled, Observer}
use Rattle.coap_server_session.specs.Prelude.{without_token, has_place, entry_for, is_whole, with_entry, is_due}
use Rattle.coap_server_session.specs.Prelude.{goes_on, notification, notification_message, left_of, format_of}
use Rattle.coap_server_session.specs.Prelude.{observer_shown, kept_on, session_shown, PendingEntryValue, link_sent}
use Rattle.coap_server_session.specs.Prelude.{late_message, after_sent}
use Rattle.std.proofs.lemmas.Bool.{and_parts, cases_Bool, le-leb}
use Rattle.std.proofs.lemmas.List.{length-map}
use Rattle.coap_model.proofs.world.KnownLaws.{IsWatchable, entry_watchable, IsKnown, IsVersioned}
use Rattle.coap_model.proofs.world.KnownLaws.{reports_on_to_observer, left_watchable}
use Rattle.coap_server_session.proofs.world.KnownShown.{mark_now, due_is_stale}
use Rattle.coap_model.proofs.world.EntryLemmas.{asks_to_enter, all_to}
use Rattle.coap_server_session.proofs.world.EntryShown.{without_shown, entered_shown, TellTheSame, found_shown}
use Rattle.coap_server_session.proofs.world.EntryShown.{become_shown}
use Rattle.coap_model.proofs.world.GoingOn.{GoesOn, call_goes_on, sent_goes_on}
use Rattle.coap_conn.proofs.LinkLemmas.{after_link}
use Rattle.coap_model.proofs.world.WalkLaws.{there_or_not}
use Rattle.coap_conn.specs.Calls as call
use Rattle.coap_conn.specs.Calls.{IsWithin, call_effect}
use Rattle.coap_model.proofs.world.SideLaws.{next_known, once_known, AreKnown, IsKnownSide, handles_parts}
use Rattle.coap_conn.specs.PendingEntries as pending

-- The server state of a store and a time.
abbrev pub shared_of : StoreValue → ℕ → ServerState
shared_of store now = record { store = store; now = now }

-- ---- state that depends on the phase

-- The value of a connection whose history has changed, from its link.
shown_as : (rest : List ℕ) (h : History) (l : LinkValue) (os : List Observer) → link_of h ≡ l
    → session_shown rest (side_with h os) ≡ session_with rest l (map observer_shown os)
shown_as rest h l os same = rw (← same) (grind arith)

-- If the history only continues, no frame is kept that was not kept before.
side_shown : (rest : List ℕ) (s : Connection) (h : History) (l : LinkValue) (os : List Observer) → GoesOn s.history h
    → link_of h ≡ l → session_shown rest (side_with h os) ≡ session_with (kept_on s rest) l (map observer_shown os)
side_shown rest s h l os goes same = shown_as rest h l os same ∙ rw (← same) (grind (arith, goes.over))

call_shown : (rest : List ℕ) (s : Connection) (c : Call) (os : List Observer) → IsHistory s.history
    → IsWithin (link_of s.history) (call_effect (link_of s.history) c).deed
    → session_shown rest (side_with (after s.history c) os)
    ≡ session_with (kept_on s rest) (link_after (link_of s.history) c) (map observer_shown os)
call_shown rest s c os is within =
    side_shown rest s _ _ os (call_goes_on s.history c within) (after_link s.history c within is)

-- ---- calls that need no resource

pub faulted_shown : (rest left : List ℕ) (s : Connection) (fault : StreamFault) → IsHistory s.history → handles s ≡ true
    → session_shown left (side_faulted s fault) ≡ session_rejected (session_shown rest s) (reject_of fault)
unfolding side_faulted
faulted_shown rest left s fault is e =
    let c : Call = call.Reject (reject_of fault) in
    rw e (shown_as left (after s.history c) _ s.observers (after_link s.history c tt is)
    ∙ rw (handles_parts s e).0 refl)

pub written_shown : (rest : List ℕ) (s : Connection) (n : ℕ) → IsHistory s.history → n ≤ length (waiting_on s)
    → session_shown rest (side_written s n) ≡ session_written (session_shown rest s) n
unfolding side_written
written_shown rest s n is within =
    rw (le-leb n (length (waiting_on s)) within, after_link s.history (call.Written n) within is) refl

-- The input ends within a frame if bytes of a frame are kept.
pub ended_side_shown : (rest : List ℕ) (s : Connection) → IsHistory s.history
    → session_shown rest (side_ended s (is_cut rest)) ≡ session_ended (session_shown rest s)
unfolding side_ended
ended_side_shown rest s is =
    call_shown rest s (call.End (is_cut rest)) s.observers is tt
    ∙ ap (λ l. session_with (kept_on s rest) l (map observer_shown s.observers)) (grind arith)

pub released_shown : (rest : List ℕ) (s : Connection) → IsHistory s.history → release_refusal (link_of s.history) ≡ None
    → session_shown rest (side_released s) ≡ session_released (session_shown rest s)
unfolding side_released
released_shown rest s is none = rw none (call_shown rest s call.Release s.observers is tt)

pub given_shown : (rest : List ℕ) (s : Connection) (m : Message) → IsHistory s.history
    → session_shown rest (side_responded s m) ≡ session_given (session_shown rest s) m
unfolding side_responded
given_shown rest s m is = call_shown rest s (call.Respond m) s.observers is tt

pub announced_shown : (rest : List ℕ) (s : Connection) (size : ℕ) → IsHistory s.history → may_raise s size ≡ true
    → session_shown rest (side_announced s size) ≡ session_announced (session_shown rest s) size
unfolding side_announced
announced_shown rest s size is may = rw may (call_shown rest s (call.Announce size) s.observers is tt)

-- ---- the link after a pending entry was sent

pub sent_link : (h : History) (now : ℕ) (e : PendingEntryValue) → IsHistory h
    → link_of (after_sent h now e) ≡ link_sent (link_of h) now e
sent_link h now (pending.Answer by token moment) is =
    after_link (after h (call.Due now)) (call.Reply (late_message by token)) tt
    ((call_goes_on h (call.Due now) tt).history is)
    ∙ ap (λ l. link_after l (call.Reply (late_message by token))) (after_link h (call.Due now) tt is)
sent_link h now (pending.Pong token) is = after_link h (call.Due now) tt is

-- ---- a message

pub change_shown : (store : StoreValue) (now : ℕ) (s : Connection) (m : Message) → handles s ≡ true
    → change_after store now s m ≡ change_by (shared_of store now) (link_of s.history) m
unfolding change_after
change_shown store now s m e = ap (λ b. cond (b && asks_answer s m) (prompt_answer store now m).change Nothing) e

module _ (store : StoreValue) (now : ℕ) (small : now ≤ 18446744073709551615) (is : IsVersioned store) where
  held_shown : (h : History) (os : List Observer) (by : Responder) (token : List ℕ) (moment : ℕ) → IsHistory h
      → session_shown [] (side_with (after h (hold_call by token moment)) os)
      ≡ session_with [] (link_after (link_of h) (hold_call by token moment)) (map observer_shown os)
  held_shown h os Engine token moment history =
      shown_as [] (after h (call.Hold token moment)) _ os (after_link h (call.Hold token moment) tt history)
  held_shown h os Application token moment history =
      shown_as [] (after h (call.HoldRequest token moment)) _ os
      (after_link h (call.HoldRequest token moment) tt history)

  replied_shown : (h : History) (os : List Observer) (m : Message) (hold : Option Delay) → IsHistory h
      → session_shown [] (side_replied store now h os m hold)
      ≡ session_replied (shared_of store now) (link_of h) (map observer_shown os) m hold
  replied_shown h os m None history =
      let a = prompt_answer store now m in
      let observes = has_place h.limits.observers os a.watch in
      let response = response_with_observe m.token observes a.response in
      let enters = observes && is_whole (fit (limit_now h) response (bare_response response)) in
      let entry = entry_for store now m in
      let watchable : enters ≡ true → IsWatchable store now (path_of m) =
      λ e. entry_watchable store now m (asks_to_enter a.watch (and_parts _ _ (and_parts observes _ e).0).0) in
      let entered = entered_shown enters os entry (new_entry (shared_of store now) m)
      (λ e. cc (mark_now store now (path_of m) small is (watchable e))) in
      shown_as [] (after h (call.Reply response)) _ (with_entry enters os entry)
      (after_link h (call.Reply response) tt history)
      ∙ cc (length-map os observer_shown, entered)
  replied_shown h os m (Some d) history = held_shown h os d.by m.token (moment_after now d.seconds) history

  -- A message that is processed.
  pub handled_shown : (rest : List ℕ) (s : Connection) (m : Message) → IsHistory s.history → handles s ≡ true
      → session_shown [] (side_after store now s m) ≡ session_handled (shared_of store now) (session_shown rest s) m
  unfolding side_after session_handled
  handled_shown rest s m history e =
      let h = after s.history (call.Handle m) in
      let same = after_link s.history (call.Handle m) tt history in
      let hold = delay_of store now m in
      let pending : delay_for h hold ≡ delay_in (link_of h) hold = grind arith in
      rw e (elim (cases_Bool (asks_answer s m)) [
        | inl asks ↦
            rw asks (replied_shown h (without_token m.token s.observers) m (delay_for h hold)
            ((call_goes_on s.history (call.Handle m) tt).history history)
            ∙ cc (without_shown m.token s.observers, pending, same))
        | inr other ↦ rw other (shown_as [] h _ s.observers same)
      ])

  -- ---- one iteration of settling, and all of them

  left_shown : (o : Observer) (stays : Bool) → IsKnown store o
      → (stays ≡ true → goes_on (notification store now o) ≡ true)
      → map observer_shown (left_of store now o stays) ≡ entry_left (shared_of store now) (observer_shown o) stays
  left_shown o true known on =
      let reports = reports_on_to_observer store now o (on refl) in
      cc (
        ap format_of reports.there ∙ reports.same,
        mark_now store now o.path small is (left_watchable store now o known (on refl)),
      )
  left_shown o false known on = refl

  -- The tests of an observer and of its value agree.
  same_tests : (os : List Observer) → AreKnown store os
      → TellTheSame (is_due store now) (is_stale (shared_of store now)) os
  same_tests os known =
      all_to (IsKnown store) (λ o. is_due store now o ≡ is_stale (shared_of store now) (observer_shown o))
      (λ o of. due_is_stale store now o of small is) os known

  next_shown : (rest : List ℕ) (s : Connection) → IsKnownSide store s
      → option_map observer_shown (next_due store now s) ≡ next_stale (shared_of store now) (session_shown rest s)
  unfolding next_stale
  next_shown rest s known =
      grind (
        arith,
        found_shown (is_due store now) (is_stale (shared_of store now)) s.observers
            (same_tests s.observers known.reported),
      )

  notified_shown : (rest : List ℕ) (s : Connection) (found : Option Observer) → IsKnownSide store s
      → ((o : Observer) → found ≡ Some o → IsKnown store o)
      → session_shown rest (notified store now s found)
      ≡ session_notified (shared_of store now) (session_shown rest s) (option_map observer_shown found)
  notified_shown rest s None known reported = refl
  notified_shown rest s (Some o) known reported =
      let m = notification_message o.token (notification store now o) in
      let on = goes_on (notification store now o) in
      let stays = on && is_whole (fit (limit_now s.history) m (bare_response m)) in
      call_shown rest s (call.Reply m) _ known.is_history tt
      ∙ cc (
        become_shown (is_due store now) (is_stale (shared_of store now)) (left_of store now o stays) s.observers
            (same_tests s.observers known.reported),
        left_shown o stays (reported o refl) (λ e. (and_parts on _ e).0),
      )

  once_shown : (rest : List ℕ) (s : Connection) → IsKnownSide store s
      → session_shown rest (settled_once store now s)
      ≡ session_settled_once (shared_of store now) (session_shown rest s)
  unfolding settled_once session_settled_once next_pending_in
  once_shown rest s known =
      let v : SessionValue = session_shown rest s in
      there_or_not (next_pending now s)
      (λ found. session_shown rest (settled_so store now s found) ≡ session_settled_so (shared_of store now) v found)
      (λ none. notified_shown rest s (next_due store now s) known (next_known store now small is s known)
      ∙ ap (session_notified (shared_of store now) v) (next_shown rest s known))
      (λ e is. side_shown rest s _ _ s.observers (sent_goes_on s.history now e)
      (sent_link s.history now e known.is_history))

  within_shown : (turns : ℕ) (rest : List ℕ) (s : Connection) → IsKnownSide store s
      → session_shown rest (settled_within turns store now s)
      ≡ session_settled_within turns (shared_of store now) (session_shown rest s)
  unfolding settled_within session_settled_within
  within_shown zero rest s known = refl
  within_shown (suc turns) rest s known =
      rw (← once_shown rest s known)
      (within_shown turns rest (settled_once store now s) (once_known store now small is s known))

  -- A connection settles as its value does.
  pub settled_shown : (rest : List ℕ) (s : Connection) → IsKnownSide store s
      → session_shown rest (settled store now s) ≡ session_settled (shared_of store now) (session_shown rest s)
  unfolding settled session_settled
  settled_shown rest s known =
      rw (length-map s.observers observer_shown)
      (within_shown (length s.history.pending + length s.observers) rest s known)
