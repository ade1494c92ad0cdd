-- The limits of a client hold: for pending and outstanding entries after any calls, for queued and buffered bytes after
-- accepted calls.
use Rattle.std.proofs.Common.{◌≡◌, ℕ, ◌+◌, ◌<◌, ◌≤◌, List, [], ◌∷◌, ◌++◌, length, drop, None, refl, ap, arith}
use Rattle.coap_client_engine.specs.Prelude.{Message, spelling, LimitValues, AreInRange, takes_messages, abort_of}
use Rattle.coap_client_engine.specs.Prelude.{AllFit, OutstandingValue, asking_refusal, ConnectionState, react}
use Rattle.coap_client_engine.specs.Prelude.{ReactionResult, History, IsHistory, limit_now, state_now, asking_now}
use Rattle.coap_client_engine.specs.Prelude.{waiting_of, bytes_of, PendingEntryValue, ClientCall, ClientStep, Took}
use Rattle.coap_client_engine.specs.Prelude.{Handles, Faults, Requests, Cancels, Pings, Releases, Announces, Writes}
use Rattle.coap_client_engine.specs.Prelude.{release, link_of, free_in, size_in, stream_in, steps_by, step, after_steps}
use Rattle.coap_client_engine.specs.Prelude.{client_after, IsAccepted, AreAccepted, client_of}
use Rattle.std.proofs.lemmas.Bool.Decides.{nat_tests}
use Rattle.std.proofs.lemmas.List.{length-append, length-drop, length-map}
use Rattle.coap_wire.proofs.StreamSteps.{unfinished_below}
use Rattle.coap_conn.proofs.SmallLemmas.{first_csm_bytes_small, release_bytes_small}
use Rattle.coap_conn.proofs.OutstandingLemmas.{count_left}
use Rattle.coap_conn.proofs.AskingLaws.{none_where, requested_size, cancel_size}
use Rattle.coap_conn.proofs.OutstandingLaws.{requested_no_more, requested_few}
use Rattle.coap_conn.proofs.HistoryLaws.{reaction_fits, stopped_fits}
use Rattle.coap_conn.proofs.AnnounceLaws.{announcement_fits}
use Rattle.coap_client_engine.proofs.ClientSteps.{stream_rest_unfinished, client_first, client_same, client_step}
use Rattle.coap_client_engine.proofs.ClientSteps.{by_calls, size_grows, Acts, stepped, step_so}
use Rattle.coap_client_engine.proofs.ClientReached.{limits_same, accepted_reach, Accepts}
use Rattle.coap_client_engine.proofs.HandledLaws.{TakeMakes, NoStep, OneMessage, OneFault, handling_has_room}
use Rattle.coap_client_engine.proofs.HandledLaws.{take_makes}
use Rattle.coap_conn.proofs.ReactionLaws.{abort_one, react_so}
use Rattle.coap_conn.proofs.WaitingLaws.{one_small, limit_within, queued_waits, kept_small_by}

-- ---- the effect of a message

-- An effect queues at most one message, and keeps an empty pending list empty.
record IsSparing (s : ConnectionState) (e : ReactionResult) : Type 0 where
  one : length e.queued ≤ 1
  none : s.pending ≡ [] → e.pending ≡ []

react_sparing : (s : ConnectionState) (m : Message) → IsSparing s (react s m).effect
react_sparing s m = react_so s m (IsSparing s) (record {
  stays = record { one = omega arith; none = λ e. e };
  silent = λ now outstanding silent. record { one = omega arith; none = λ e. e };
  stops = λ why farewell plain one may. record { one = one; none = λ e. refl };
  queues = λ n no. record { one = omega arith; none = λ e. e };
  keeps = λ ping custody some. record {
    one = omega arith;
    none = λ e. absurd (omega (arith, some, ap (λ (pending : List PendingEntryValue). length pending) e));
  };
})

-- ---- pending and outstanding entries

-- The limits are the given ones, no entry is pending, and no more entries are outstanding than the limit.
record KeepsLimits (limits : LimitValues) (h : History) : Type 0 where
  same : h.limits ≡ limits
  none : h.pending ≡ []
  few : length h.outstanding ≤ limits.outstanding

module _ (limits : LimitValues) (h : History) (is : KeepsLimits limits h) where
  asked_keeps : (m : Message) (e : OutstandingValue) → asking_refusal (asking_now h) m ≡ None
      → KeepsLimits limits (record h {
        outstanding = h.outstanding ++ e ∷ [];
        queued = h.queued ++ m ∷ [];
        tokens = h.tokens + 1;
      })
  asked_keeps m e may =
      let most = ap (λ (l : LimitValues). l.outstanding) is.same in
      let few = requested_few h m e (omega (arith, is.few)) in
      record { same = is.same; none = is.none; few = omega (arith, rw may at few) }

  effect_keeps : (s : ClientStep) → Acts h s → KeepsLimits limits (stepped h s)
  effect_keeps (Handles m) acts = record {
    same = is.same;
    none = (react_sparing (state_now h) m).none is.none;
    few = omega (arith, is.few, requested_no_more (state_now h) m);
  }
  effect_keeps (Requests m observe) acts = asked_keeps _ _ (none_where _ acts)
  effect_keeps (Pings custody) acts = asked_keeps _ _ (none_where _ acts)
  effect_keeps s acts = grind (arith, length-map, count_left)

steps_keep_limits : (limits : LimitValues) (h : History) (ss : List ClientStep) → KeepsLimits limits h
    → KeepsLimits limits (after_steps h ss)
unfolding after_steps
steps_keep_limits limits h [] is = is
steps_keep_limits limits h (s ∷ ss) is =
    steps_keep_limits limits (step h s) ss (step_so h s (KeepsLimits limits) is (effect_keeps limits h is s))

calls_keep_limits : (limits : LimitValues) (tokens : ℕ) (calls : List ClientCall)
    → KeepsLimits limits (client_after limits tokens calls)
unfolding client_after
calls_keep_limits limits tokens calls =
    steps_keep_limits limits _ _ (record { same = refl; none = refl; few = omega arith })

pub client_holds_nothing : (limits : LimitValues) (tokens : ℕ) (calls : List ClientCall)
    → (client_after limits tokens calls).pending ≡ []
client_holds_nothing limits tokens calls = (calls_keep_limits limits tokens calls).none

pub few_outstanding : (limits : LimitValues) (tokens : ℕ) (calls : List ClientCall)
    → length (client_after limits tokens calls).outstanding ≤ limits.outstanding
few_outstanding limits tokens calls = (calls_keep_limits limits tokens calls).few

-- ---- the number of queued bytes

-- The number of bytes still to be written.
abbrev bytes_wait : History → ℕ
bytes_wait h = length (waiting_of h)

-- A history in which the queue limit holds.
module _ (limits : LimitValues) (h : History) (same : h.limits ≡ limits) (is : IsHistory h)
    (few : bytes_wait h ≤ limits.queue) where
  -- The queued bytes with more messages.
  abbrev waiting_with : List Message → ℕ
  waiting_with ms = length (drop h.written (bytes_of (h.queued ++ ms)))

  more_wait : (ms : List Message) → length (bytes_of ms) ≤ free_in (link_of h) → waiting_with ms ≤ limits.queue
  more_wait ms room = omega (arith, queued_waits h ms is, ap (λ (l : LimitValues). l.queue) same)

  asked_waits : (m : Message) → length (spelling m) ≤ free_in (link_of h) → waiting_with (m ∷ []) ≤ limits.queue
  asked_waits m room = more_wait (m ∷ []) (omega (arith, length-append (spelling m) []))

  -- There is room for a message of maximum size.
  abbrev IsFree : Type 0
  IsFree = h.limits.max_sent ≤ free_in (link_of h)

  one_waits : (ms : List Message) → IsFree → length ms ≤ 1 → AllFit (limit_now h) ms → waiting_with ms ≤ limits.queue
  one_waits ms free one fit = more_wait ms (omega (arith, one_small (limit_now h) ms one fit, limit_within h))

  -- Says that a step that handles a message or a fault finds that room.
  abbrev FindsRoom : ClientStep → Type 0
  FindsRoom (Handles m) = IsFree
  FindsRoom (Faults fault) = IsFree
  FindsRoom other = Unit {0}

  effect_waits : (s : ClientStep) → FindsRoom s → Acts h s → bytes_wait (stepped h s) ≤ limits.queue
  effect_waits (Handles m) free acts = one_waits _ free (react_sparing (state_now h) m).one (reaction_fits h m)
  effect_waits (Faults fault) free acts = one_waits _ free (abort_one (limit_now h) (abort_of _)) (stopped_fits h _)
  effect_waits (Requests m observe) free acts = asked_waits _ (requested_size _ _ (none_where _ acts)).room
  effect_waits (Cancels token m) free acts = asked_waits _ (cancel_size _ token _ (none_where _ acts)).room
  effect_waits (Pings custody) free acts = asked_waits _ (requested_size _ _ (none_where _ acts)).room
  effect_waits Releases free acts = more_wait (release ∷ []) (grind (arith, nat_tests, release_bytes_small))
  effect_waits (Announces size) free acts =
      one_waits _ (grind (arith, nat_tests)) (omega arith) (announcement_fits h size acts.1)
  effect_waits (Writes n) free acts =
      omega (arith, length-drop h.written (bytes_of h.queued), length-drop (h.written + n) (bytes_of h.queued))
  effect_waits s free acts = more_wait [] (omega arith)

-- ---- after accepted calls

-- The step of a call that accepts no bytes.
bare_one : (limits : LimitValues) (h : History) (same : h.limits ≡ limits) (is : IsHistory h)
    (few : bytes_wait h ≤ limits.queue) (M : ℕ) (calls : List ClientCall) (c : ClientCall) → Accepts (link_of h) c
    → (s : ClientStep) × (steps_by M calls c ≡ s ∷ []) × FindsRoom limits h same is few s
unfolding steps_by
bare_one limits h same is few M calls (Took bytes) may = absurd may
bare_one limits h same is few M calls c may = (_, refl, tt)

module _ (limits : LimitValues) (tokens : ℕ) where
  -- The queue limit holds after the calls.
  abbrev FewWait : List ClientCall → Type 0
  FewWait calls = length (waiting_of (client_after limits tokens calls)) ≤ limits.queue

  none_wait : AreInRange limits → FewWait []
  none_wait ranges =
      rw client_first
      (omega (arith, first_csm_bytes_small limits.max_message, ranges.sent_low, ranges.queue_low))

  module _ (calls : List ClientCall) (all : AreAccepted limits tokens calls) (few : FewWait calls) where
    abbrev now : History
    now = client_after limits tokens calls

    is_now : IsHistory now
    is_now = (accepted_reach limits tokens calls all).is_history

    same_now : now.limits ≡ limits
    same_now = limits_same limits tokens calls

    step_waits : (c : ClientCall) (s : ClientStep) → steps_by limits.max_message calls c ≡ s ∷ []
        → FindsRoom limits now same_now is_now few s → FewWait (calls ++ c ∷ [])
    step_waits c s one free =
        rw (client_step limits tokens calls c s one)
        (step_so now s (λ k. bytes_wait k ≤ limits.queue) few (effect_waits limits now same_now is_now few s free))

    took_waits : (bytes : List ℕ) → TakeMakes limits.max_message calls bytes now → FewWait (calls ++ Took bytes ∷ [])
    took_waits bytes (NoStep none messages fault) = rw (client_same limits tokens calls (Took bytes) none) few
    took_waits bytes (OneMessage does m adds) = step_waits _ (Handles m) adds.steps (handling_has_room now does).1
    took_waits bytes (OneFault does fault rest adds) =
        step_waits _ (Faults fault) adds.steps (handling_has_room now does).1

    call_waits : (c : ClientCall) → IsAccepted limits tokens calls c → FewWait (calls ++ c ∷ [])
    unfolding IsAccepted
    call_waits (Took bytes) last = took_waits bytes (take_makes limits tokens calls bytes all last)
    call_waits c may =
        let one = bare_one limits now same_now is_now few limits.max_message calls c may in
        step_waits c one.0 one.1 one.2

pub few_wait : (limits : LimitValues) (tokens : ℕ) (calls : List ClientCall) → AreInRange limits
    → AreAccepted limits tokens calls → length (waiting_of (client_after limits tokens calls)) ≤ limits.queue
few_wait limits tokens calls ranges accepted =
    by_calls limits tokens (λ cs. length (waiting_of (client_after limits tokens cs)) ≤ limits.queue)
    (none_wait limits tokens ranges)
    (λ cs c all last before. call_waits limits tokens cs all before c last) calls accepted

-- ---- buffered bytes of an unfinished frame

-- The buffer holds fewer bytes than the largest message that is accepted.
pub few_kept : (limits : LimitValues) (tokens : ℕ) (calls : List ClientCall) → AreInRange limits
    → AreAccepted limits tokens calls
    → length (client_of limits tokens calls).frame < size_in limits.max_message calls
unfolding client_of
few_kept limits tokens calls ranges accepted =
    let M : ℕ = limits.max_message in
    let N : ℕ = size_in M calls in
    let rest : List ℕ = (stream_in M calls).rest in
    let low : 1152 ≤ N = omega (arith, ranges.message_low, size_grows M calls) in
    kept_small_by N rest (takes_messages (client_after limits tokens calls).phase) (omega (arith, low))
    (λ takes. unfinished_below N rest (omega (arith, low))
    (stream_rest_unfinished M calls ((accepted_reach limits tokens calls accepted).live takes)))

-- The client accepts messages up to the size announced last.
pub last_size : (limits : LimitValues) (tokens : ℕ) (calls : List ClientCall) → AreAccepted limits tokens calls
    → (client_of limits tokens calls).link.own_max ≡ size_in limits.max_message calls
unfolding client_of
last_size limits tokens calls accepted = (accepted_reach limits tokens calls accepted).size
