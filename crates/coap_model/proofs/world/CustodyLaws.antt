-- Pending entries are in the order of the messages that asked for them. A Pong with Custody is queued only if no entry
-- from before its Ping is pending.
use Rattle.std.proofs.Common.{◌≡◌, ℕ, zero, suc, Bool, true, false, ◌&&◌, ◌==◌, List, [], ◌∷◌, ◌++◌, length, Option}
use Rattle.std.proofs.Common.{Some, None, refl, sym, ap, ◌∙◌, inl, inr, ◌⊎◌, arith, append_assoc}
use Rattle.coap_model.specs.Prelude.{Responder, AllByRecursion, list_any, remove, Message, Phase, LimitValues}
use Rattle.coap_model.specs.Prelude.{takes_messages, answers, is_open, fit, bare_response, PendingEntryValue, Answer}
use Rattle.coap_model.specs.Prelude.{Pong, without_due, is_custody_pong, History, limit_now, state_now, after, may_hold}
use Rattle.coap_model.specs.Prelude.{StoreValue, Response, prompt_answer, each_at, ApplicationsValue, Delay, delay_of}
use Rattle.coap_model.specs.Prelude.{asks_delayed, response_with_observe, without_token, Connection, with_history}
use Rattle.coap_model.specs.Prelude.{delay_for, asks_answer, side_handled, side_after, settled_once, side_written}
use Rattle.coap_model.specs.Prelude.{side_answered, side_with, asks_pending, CorrespondTo, QueuesCustody}
use Rattle.coap_model.specs.Prelude.{IsFirstPending, KeepsPending, AddsRequested, Reason, PeerTooSmall, state_without}
use Rattle.coap_model.specs.Prelude.{without_request, side_responded, response_refusal, link_of, KeepsBut, next_pending}
use Rattle.coap_model.specs.Prelude.{next_due, notified, notification_message, notification}
use Rattle.coap_model.proofs.world.WalkLaws.{there_or_not, PlainCall, plain_between, pending_is, said_request, sent}
use Rattle.coap_model.proofs.world.WalkLaws.{without_first, Replies, after_between, responded_between, once_between}
use Rattle.coap_model.proofs.world.WalkLaws.{received, holding}
use Rattle.std.proofs.lemmas.Bool.{and_from, both_ways}
use Rattle.std.proofs.lemmas.List.{append_cancel_left, append-nil}
use lib.Pointwise.{bytes_decides}
use Rattle.coap_conn.proofs.PendingLaws.{custody_at_once, due_pong}
use Rattle.coap_conn.proofs.RequestLemmas.{react_asks}
use Rattle.coap_store.proofs.HoldLaws.{delay_of_answer}
use Rattle.coap_model.proofs.world.EntryLemmas.{all_to}
use Rattle.coap_model.proofs.world.GoingOn.{Keeps}
use Rattle.coap_conn.proofs.ReactionLaws.{react_so, IsNoPong, StopsAtMost}
use Rattle.coap_model.proofs.world.QueuedMessages.{plain_queues, sent_either, sent_all, reply_either}
use Rattle.coap_model.proofs.world.RespondedLaws.{allowed, plain_codes, response_is_no_pong}
use Rattle.coap_model.proofs.world.SideLaws.{replied_cases, handles_parts}
use Rattle.coap_wire.specs.OptionNumbers as numbers
use Rattle.coap_conn.specs.SignalOptions as option
use Rattle.coap_conn.specs.declared.phase.Phase.TheVariants as phase
use Rattle.coap_conn.specs.Calls as call
use Rattle.std.proofs.lemmas.List.Folds.{list_any-append}
use Rattle.coap_conn.proofs.StopLaws.{stopped_over}

-- ---- a Pong with Custody among queued messages

-- Messages are queued; if a Pong with Custody is among them, G holds.
abbrev Gives : Type 0 → History → History → Type 0
Gives G h k = (more : List Message) × (k.queued ≡ h.queued ++ more) × (list_any is_custody_pong more ≡ true → G)

gives_none : (G : Type 0) (h k : History) → k.queued ≡ h.queued → Gives G h k
gives_none G h k same = grind (arith, append-nil)

-- Further messages without such a Pong do not change this.
gives_then : (G : Type 0) (h k g : History) → Gives G h k → Gives ⊥ k g → Gives G h g
gives_then G h k g one two = grind (arith, append_assoc, list_any-append)

custody_gives : (G : Type 0) (s t : Connection) → Gives G s.history t.history → QueuesCustody s t → G
custody_gives G s t gives custody =
    let same = append_cancel_left s.history.queued custody.more gives.0 (sym custody.queued ∙ gives.1) in
    grind arith

none_pass : {X : Type 0} (p : X → Bool) (xs : List X) → AllByRecursion (λ x. p x ≡ false) xs → list_any p xs ≡ false
none_pass p [] none = refl
none_pass p (x ∷ xs) none = rw none.0 (none_pass p xs none.1)

-- ---- responses

-- No option of a response is Custody.
path_no_custody : (path : List (List ℕ))
    → list_any (λ o. o.number == option.custody && length o.value == 0) (each_at numbers.location_path path) ≡ false
path_no_custody [] = refl
path_no_custody (segment ∷ path) = path_no_custody path

pub response_no_pong : (token : List ℕ) (observe : Bool) (r : Response)
    → IsNoPong (response_with_observe token observe r)
response_no_pong token observe r = grind (arith, list_any-append, path_no_custody)

pub bare_no_pong : (m : Message) → IsNoPong (bare_response m)
bare_no_pong m = grind arith

-- A response is no Pong with Custody.
reply_gives : Replies (Gives ⊥)
reply_gives h token observe r does room = grind (arith, response_no_pong token observe r, bare_no_pong)

-- ---- effects that queue such a Pong

pub custody_waits : (store : StoreValue) (now : ℕ) (s : Connection) (m : Message)
    → QueuesCustody s (side_after store now s m) → s.history.pending ≡ []
custody_waits store now s m =
    custody_gives (s.history.pending ≡ []) s (side_after store now s m)
    (after_between (λ h. Gives (h.pending ≡ []) h) (Gives ⊥) (λ h. gives_none (h.pending ≡ []) h h refl)
    (λ h. gives_then (h.pending ≡ []) h)
    (λ h m takes room. (_, refl, custody_at_once (state_now h) m)) (λ h. gives_none ⊥ h h refl) reply_gives
    (λ h by token moment opened may. grind (arith, gives_none)) store
    now s m)

-- Plain calls queue no such Pong.
pub plain_queues_no_custody : (s t : Connection) → PlainCall s t → QueuesCustody s t → ⊥
plain_queues_no_custody s t call =
    let queues = plain_queues s t call in
    custody_gives ⊥ s t (grind (arith, both_ways, none_pass, all_to))

-- The first pending entry is a Pong.
abbrev IsPongFirst : History → Type 0
IsPongFirst h = (token : List ℕ) × (rest : List PendingEntryValue) × (h.pending ≡ Pong token ∷ rest)

pub custody_comes_first : (store : StoreValue) (now : ℕ) (s : Connection) → QueuesCustody s (settled_once store now s)
    → (token : List ℕ) × IsFirstPending s token
custody_comes_first store now s custody =
    let first = custody_gives (IsPongFirst s.history) s (settled_once store now s)
    (once_between (λ h. Gives (IsPongFirst h) h) (Gives ⊥) (λ h. gives_none (IsPongFirst h) h h refl)
    (λ h. gives_then (IsPongFirst h) h) reply_gives
    (λ h now. gives_none (IsPongFirst h) h (without_first h now) refl)
    (λ h now token due room. grind (arith, due_pong))
    store now s) custody in
    grind arith

-- ---- the order of pending entries

-- The first of these messages asked for these entries, and the others for those.
pub record StandApart (a : Option ApplicationsValue) (ms : List Message) (es fs : List PendingEntryValue) : Type 0 where
  pub first : List Message
  pub others : List Message
  pub there : ms ≡ first ++ others
  pub those : CorrespondTo a first es
  pub rest : CorrespondTo a others fs

module _ (a : Option ApplicationsValue) where
  -- One more message.
  stand_skip : (m : Message) (ms : List Message) (es : List PendingEntryValue)
      → CorrespondTo a ms es → CorrespondTo a (m ∷ ms) es
  unfolding CorrespondTo
  stand_skip m ms [] stand = tt
  stand_skip m ms (e ∷ es) stand = inr stand

  -- More messages, with the entries that they ask for.
  pub stand_append : (ms ns : List Message) (es fs : List PendingEntryValue)
      → CorrespondTo a ms es → CorrespondTo a ns fs → CorrespondTo a (ms ++ ns) (es ++ fs)
  unfolding CorrespondTo
  stand_append [] ns [] fs stand more = more
  stand_append [] ns (e ∷ es) fs stand more = absurd stand
  stand_append (m ∷ ms) ns [] fs stand more = stand_skip m (ms ++ ns) fs (stand_append ms ns [] fs tt more)
  stand_append (m ∷ ms) ns (e ∷ es) fs (inl here) more = inl (here.0, stand_append ms ns es fs here.1 more)
  stand_append (m ∷ ms) ns (e ∷ es) fs (inr later) more = inr (stand_append ms ns (e ∷ es) fs later more)

  -- Of the messages that asked for entries in a row, the first asked for the first entries.
  pub stand_apart : (ms : List Message) (es fs : List PendingEntryValue) → CorrespondTo a ms (es ++ fs)
      → StandApart a ms es fs
  unfolding CorrespondTo
  stand_apart ms [] fs stand = record { first = []; others = ms; there = refl; those = tt; rest = stand }
  stand_apart [] (e ∷ es) fs stand = absurd stand
  stand_apart (m ∷ ms) (e ∷ es) fs (inl here) =
      let apart = stand_apart ms es fs here.1 in
      record {
        first = m ∷ apart.first;
        others = apart.others;
        there = ap (λ (ns : List Message). m ∷ ns) apart.there;
        those = inl (here.0, apart.those);
        rest = apart.rest;
      }
  stand_apart (m ∷ ms) (e ∷ es) fs (inr later) =
      let apart = stand_apart ms (e ∷ es) fs later in
      record {
        first = m ∷ apart.first;
        others = apart.others;
        there = ap (λ (ns : List Message). m ∷ ns) apart.there;
        those = inr apart.those;
        rest = apart.rest;
      }

  -- A message asks for the entry that it adds.
  stand_added : (m : Message) (es : List PendingEntryValue) → AddsRequested a m es
      → CorrespondTo a (m ∷ []) es
  unfolding CorrespondTo
  stand_added m [] adds = tt
  stand_added m (e ∷ []) adds = grind arith
  stand_added m (e ∷ d ∷ es) adds = grind arith

  -- The same without the first entry, and without any entry.
  stand_tail : (ms : List Message) (e : PendingEntryValue) (es : List PendingEntryValue)
      → CorrespondTo a ms (e ∷ es) → CorrespondTo a ms es
  unfolding CorrespondTo
  stand_tail [] e es stand = absurd stand
  stand_tail (m ∷ ms) e es (inl here) = stand_skip m ms es here.1
  stand_tail (m ∷ ms) e es (inr later) = stand_skip m ms es (stand_tail ms e es later)

  stand_removed : (ms : List Message) (es : List PendingEntryValue) (i : ℕ)
      → CorrespondTo a ms es → CorrespondTo a ms (remove es i)
  unfolding CorrespondTo
  stand_removed ms [] zero stand = stand
  stand_removed ms [] (suc i) stand = stand
  stand_removed ms (e ∷ es) zero stand = stand_tail ms e es stand
  stand_removed [] (e ∷ es) (suc i) stand = absurd stand
  stand_removed (m ∷ ms) (e ∷ es) (suc i) (inl here) = inl (here.0, stand_removed ms es i here.1)
  stand_removed (m ∷ ms) (e ∷ es) (suc i) (inr later) = inr (stand_removed ms (e ∷ es) (suc i) later)

  stand_due : (ms : List Message) (now : ℕ) (es : List PendingEntryValue)
      → CorrespondTo a ms es → CorrespondTo a ms (without_due now es)
  unfolding without_due
  stand_due ms now es stand = grind (arith, stand_removed)

  -- The same without the first request with a token that waits for the application.
  stand_request : (ms : List Message) (token : List ℕ) (es : List PendingEntryValue)
      → CorrespondTo a ms es → CorrespondTo a ms (without_request token es)
  unfolding without_request
  stand_request ms token es stand = grind (arith, stand_removed)

  -- Each entry was asked for.
  pub each_requested : (ms : List Message) (before : List PendingEntryValue) (e : PendingEntryValue)
      (after : List PendingEntryValue) → CorrespondTo a ms (before ++ e ∷ after)
      → list_any (λ m. asks_pending a m e) ms ≡ true
  unfolding CorrespondTo
  each_requested [] [] e after stand = absurd stand
  each_requested [] (b ∷ before) e after stand = absurd stand
  each_requested (m ∷ ms) [] e after stand = grind (arith, each_requested ms [] e after)
  each_requested (m ∷ ms) (b ∷ before) e after stand =
      grind (arith, each_requested ms before e after, each_requested ms (b ∷ before) e after)

-- ---- a request

-- A request does not change the pending entries, and the connection stays open.
pub request_quiet : (s : Connection) (m : Message) → asks_answer s m ≡ true
    → ((after s.history (call.Handle m)).pending ≡ s.history.pending)
    × (is_open (after s.history (call.Handle m)).phase ≡ true)
request_quiet s m asks =
    grind (arith, react_asks (state_now s.history) m (said_request _ asks), stopped_over (state_now s.history) m)

-- A delayed response is pending only if the list has a place for it.
pub pending_where : (h : History) (delay : Option Delay) (d : Delay) → delay_for h delay ≡ Some d
    → (may_hold h ≡ true) × (delay ≡ Some d)
pending_where h delay d is = grind arith

-- The message asks for the responder of its delay.
delayed_requested : (store : StoreValue) (now : ℕ) (m : Message) (d : Delay) → delay_of store now m ≡ Some d
    → asks_delayed store.applications d.by m ≡ true
delayed_requested store now m d is = grind (arith, delay_of_answer)

module _ (store : StoreValue) (now : ℕ) (s : Connection) (m : Message) where
  abbrev pub heard : History
  heard = after s.history (call.Handle m)

  -- The possible cases of a message: no request, a request with a delayed response, and one with an immediate response.
  pub handled_cases : (P : Connection → Type 0) → (asks_answer s m ≡ false → P (with_history s heard))
      → (asks_answer s m ≡ true → (by : Responder) (moment : ℕ) → asks_delayed store.applications by m ≡ true
      → P (side_with (holding heard (heard.pending ++ Answer by m.token moment ∷ []))
      (without_token m.token s.observers)))
      → (asks_answer s m ≡ true
      → P (side_answered store now heard (without_token m.token s.observers) m (prompt_answer store now m)))
      → P (side_handled store now s m)
  handled_cases P other late prompt =
      grind (arith, replied_cases, pending_where, pending_is, and_from, request_quiet, delayed_requested)

-- ---- the entries that a message adds

-- More entries are pending, and the message asks for each new one; or the connection has stopped and has none.
abbrev Over : Option ApplicationsValue → Message → List PendingEntryValue → List PendingEntryValue → Phase → Type 0
Over a m before after now =
    ((more : List PendingEntryValue) × (after ≡ before ++ more) × AddsRequested a m more)
    ⊎ ((why : Reason) × (now ≡ phase.Stopped why) × (after ≡ []))

adds_none : (a : Option ApplicationsValue) (m : Message) (es : List PendingEntryValue) (now : Phase)
    → Over a m es es now
adds_none a m es now = grind (arith, append-nil es)

adds_one : (a : Option ApplicationsValue) (m : Message) (before : List PendingEntryValue) (e : PendingEntryValue)
    (now : Phase) → asks_pending a m e ≡ true → Over a m before (before ++ e ∷ []) now
adds_one a m before e now asks = grind arith

-- A message was handled while messages were accepted, and it may have stopped the connection.
pub record HandlesOne (a : Option ApplicationsValue) (m : Message) (before : History) (handled : List Message)
    (pending : List PendingEntryValue) (now : Phase) : Type 0 where
  pub handled_more : takes_messages before.phase ≡ true → handled ≡ before.handled ++ m ∷ []
  pub stops : StopsAtMost before.phase → StopsAtMost now
  pub adds : Over a m before.pending pending now

abbrev pub HasReceived : Option ApplicationsValue → Message → History → History → Type 0
HasReceived a m h k = HandlesOne a m h k.handled k.pending k.phase

message_hears : (a : Option ApplicationsValue) (h : History) (m : Message) → HasReceived a m h (after h (call.Handle m))
message_hears a h m =
    let s = state_now h in
    let does =
    react_so s m (λ e. (StopsAtMost s.phase → StopsAtMost e.phase) × Over a m s.pending e.pending e.phase) (record {
      stays = (λ is. is, adds_none a m s.pending s.phase);
      silent = λ now outstanding silent. (silent, adds_none a m s.pending now);
      stops = λ why farewell plain one may. grind arith;
      queues = λ n none. (λ is. is, adds_none a m s.pending s.phase);
      keeps = λ ping custody some. grind (arith, adds_one, bytes_decides);
    }) in
    grind (arith, received h m, adds_none a m h.pending h.phase)

pub handled_hears : (store : StoreValue) (now : ℕ) (s : Connection) (m : Message)
    → HasReceived store.applications m s.history (side_handled store now s m).history
handled_hears store now s m =
    let a = store.applications in
    let h = after s.history (call.Handle m) in
    let received = message_hears a s.history m in
    handled_cases store now s m (λ t. HasReceived a m s.history t.history) (λ other. received)
    (λ asks by moment requested.
    grind (
      arith,
      request_quiet s m asks,
      adds_one a m s.history.pending (Answer by m.token moment) h.phase (rw (
        requested,
        (bytes_decides m.token m.token).1 refl,
      ) refl),
    ))
    (λ asks. reply_either h _ (HandlesOne a m s.history) received
    (grind arith))

-- ---- histories

abbrev pub Corresponds : Option ApplicationsValue → History → Type 0
Corresponds a h = CorrespondTo a h.handled h.pending

sent_corresponds : (a : Option ApplicationsValue) (h : History) (m less : Message) → Corresponds a h
    → Corresponds a (sent h m less)
unfolding CorrespondTo
sent_corresponds a h m less stand = grind (arith, sent_either)

-- The message asks for the entries that it added.
received_corresponds : (a : Option ApplicationsValue) (m : Message) (h k : History) → takes_messages h.phase ≡ true
    → HasReceived a m h k → Corresponds a h → Corresponds a k
unfolding CorrespondTo
received_corresponds a m h k takes received stand =
    grind (arith, stand_append, stand_added)

pub corresponds_plain : (a : Option ApplicationsValue) (s t : Connection) → PlainCall s t → Corresponds a s.history
    → Corresponds a t.history
unfolding CorrespondTo
corresponds_plain a =
    plain_between (λ h k. Corresponds a h → Corresponds a k) (λ h stand. stand) (λ h fault takes room stand. tt)
    (λ h n within stand. stand) (λ h cut takes stand. tt) (λ h opened none stand. tt)
    (λ h n opened room fit stand. stand)

pub corresponds_keeps : (limits : LimitValues) (a : Option ApplicationsValue)
    → Keeps limits a (λ s. Corresponds a s.history)
unfolding side_after CorrespondTo
corresponds_keeps limits a = let R : History → History → Type 0 = λ h k. Corresponds a h → Corresponds a k in record {
  first = tt;
  handled =
      λ store now s m same is stand.
      grind (arith, received_corresponds, handles_parts, handled_hears);
  plain = corresponds_plain a;
  responded = grind (arith, responded_between R, sent_either, stand_request a);
  reported =
      grind (arith, once_between R R, sent_corresponds a, stand_due a);
}

-- ---- effects that do not change the pending entries

-- The pending entries are the same, or the connection has stopped.
abbrev Leaves : History → History → Type 0
Leaves h k = (k.pending ≡ h.pending) ⊎ ((why : Reason) × (k.phase ≡ phase.Stopped why))

-- So the pending entries are kept.
left_kept : (s t : Connection) → Leaves s.history t.history → KeepsPending s t
left_kept s t leaves = let none = append-nil s.history.pending in grind arith

pub plain_keeps : (s t : Connection) → PlainCall s t → KeepsPending s t
plain_keeps s t call = grind (arith, left_kept s t, plain_between Leaves)

-- If no entry is due, settling only notifies an observer.
pub notified_keeps : (store : StoreValue) (now : ℕ) (s : Connection) → next_pending now s ≡ None
    → KeepsPending s (settled_once store now s)
unfolding settled_once
notified_keeps store now s is =
    left_kept s (settled_once store now s) (rw is (there_or_not (next_due store now s)
    (λ o. Leaves s.history (notified store now s o).history) (λ none. inl refl)
    (λ o due. reply_either s.history (notification_message o.token (notification store now o))
    (λ ms es now. (es ≡ s.history.pending) ⊎ ((why : Reason) × (now ≡ phase.Stopped why))) (inl refl)
    (inr (PeerTooSmall, refl)))))

pub written_same : (s : Connection) (n : ℕ) → (side_written s n).history.pending ≡ s.history.pending
unfolding side_written
written_same s n = grind arith

-- A response of the application removes the request that it answers.
pub responded_keeps : (s : Connection) (m : Message) → answers s.history.phase ≡ true
    → response_refusal (link_of s.history) m ≡ None
    → KeepsBut (without_request m.token s.history.pending) (side_responded s m)
unfolding side_responded
responded_keeps s m answering none =
    let pending = without_request m.token s.history.pending in
    rw (answering, none) (sent_either (state_without m.token (state_now s.history)) m (bare_response m)
    (fit (limit_now s.history) m (bare_response m))
    (λ es now. (es ≡ pending) ⊎ ((why : Reason) × (now ≡ phase.Stopped why))) (inl refl) (inr (PeerTooSmall, refl)))

-- It queues no Pong.
pub responded_no_custody : (s : Connection) (m : Message) → QueuesCustody s (side_responded s m) → ⊥
responded_no_custody s m =
    custody_gives ⊥ s (side_responded s m)
    (responded_between (Gives ⊥) (λ h. gives_none ⊥ h h refl) (λ h n answering none. (
      _,
      refl,
      λ pong. (let codes = plain_codes n (allowed (link_of h) n none).plain in
          both_ways _ (none_pass is_custody_pong _ (sent_all IsNoPong (state_without n.token (state_now h)) n
          (bare_response n) (fit (limit_now h) n (bare_response n)) (response_is_no_pong n codes.0)
          (response_is_no_pong (bare_response n) codes.1))) pong),
    )) s m)
