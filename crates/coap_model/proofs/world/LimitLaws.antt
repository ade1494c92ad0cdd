-- No limit of a server is exceeded. After any events, this holds of the queued bytes, the pending entries and the
-- observers of a connection. After accepted events, it also holds of the bytes kept of an unfinished frame.
use Rattle.std.proofs.Common.{◌≡◌, ℕ, ◌<◌, ◌≤◌, Bool, true, false, List, [], ◌∷◌, ◌++◌, length, Some, None, refl, ◌∙◌}
use Rattle.std.proofs.Common.{arith, sym, subst, append_assoc}
use Rattle.std.proofs.lemmas.Bool.{leb-true, ltb-true, eqb-true}
use Rattle.std.proofs.lemmas.List.{length-append, length-drop, append-nil}
use Rattle.std.proofs.lemmas.List.Sums.{length-filter, count_by-le-length}
use Rattle.coap_model.specs.Prelude.{ApplicationsValue, Option, Message, spelling, Reply, LimitValues, AreInRange}
use Rattle.coap_model.specs.Prelude.{announced, bad_csm_option, announcement, AllFit, fit, bare_response}
use Rattle.coap_model.specs.Prelude.{ConnectionState, send_as, react, pong_with, ReactionResult, live_reaction}
use Rattle.coap_model.specs.Prelude.{reject_reason, History, IsHistory, limit_now, state_now, after, link_of}
use Rattle.coap_model.specs.Prelude.{with_effect, own_csm, StoreValue, response_with_observe, ConfigValues, Observer}
use Rattle.coap_model.specs.Prelude.{is_due, without_token, left_of, first_becomes, Connection, new_side, settled_once}
use Rattle.coap_model.specs.Prelude.{settled, side_of, World, Step, AcceptedCall, stream_on, world_after, AreAccepted}
use Rattle.coap_model.specs.Prelude.{kept_on, Server}
use Rattle.coap_model.proofs.world.SideLaws.{send_pending, observers_after, observers_settled}
use Rattle.coap_wire.proofs.StreamSteps.{unfinished_below}
use Rattle.coap_conn.proofs.LinkLemmas.{announced_more}
use Rattle.coap_conn.proofs.WaitingLaws.{wait, one_small, limit_within, queued_waits, kept_small_by}
use Rattle.coap_conn.proofs.SmallLemmas.{release_bytes_small}
use Rattle.coap_conn.proofs.PendingLaws.{due_nothing, due_fewer, pending_few}
use Rattle.coap_conn.proofs.HistoryLaws.{reaction_fits, sent_fits, stopped_fits, new_fits, released_fits}
use Rattle.coap_model.proofs.world.WalkLaws.{observers_plain, observers_responded, settled_keeps, release_fits, room_in}
use Rattle.coap_model.proofs.world.WalkLaws.{sent, without_first, Hears, Replies, Between, once_between, after_between}
use Rattle.coap_model.proofs.world.WalkLaws.{faulted_between, written_between, ended_between, released_between}
use Rattle.coap_model.proofs.world.WalkLaws.{announced_between, responded_between}
use Rattle.coap_model.proofs.world.AcrossLaws.{KeepsAll, keeping_composes, HoldsOf, step_across, opened_there}
use Rattle.coap_model.proofs.world.GoingOn.{GoesOn, all_go_on, call_goes_on, Keeps}
use Rattle.coap_conn.proofs.ReactionLaws.{abort_one, react_so}
use Rattle.coap_model.proofs.world.ReachedLaws.{accepted_is}
use Rattle.coap_model.proofs.world.StepLaws.{rest_unfinished, size_grows}
use Rattle.coap_model.proofs.world.EntryLemmas.{all_append}
use Rattle.coap_model.proofs.world.RespondedLaws.{request_fewer, responded_small, sent_is}
use Rattle.coap_conn.proofs.ApplicationLaws.{responded_fits}
use Rattle.coap_model.proofs.OptionLemmas.{same_there}
use Rattle.coap_wire.proofs.NumberLaws.{none_or_some}
use Rattle.coap_wire.specs.Codes as code
use Rattle.coap_model.specs.world.World as world

-- ---- observers

token_fewer : (token : List ℕ) (os : List Observer) → length (without_token token os) ≤ length os
unfolding without_token
token_fewer token os = grind (arith, length-filter, count_by-le-length)

becomes_fewer : (due : Observer → Bool) (after : List Observer) (os : List Observer) → length after ≤ 1
    → length (first_becomes due after os) ≤ length os
unfolding first_becomes
becomes_fewer due after [] one = omega arith
becomes_fewer due after (o ∷ os) one = grind (arith, length-append, becomes_fewer due after os one)

left_one : (store : StoreValue) (now : ℕ) (o : Observer) (stays : Bool) → length (left_of store now o stays) ≤ 1
left_one store now o stays = grind arith

pub few_keeps : (limits : LimitValues) (a : Option ApplicationsValue)
    → Keeps limits a (λ s. length s.observers ≤ limits.observers)
few_keeps limits a =
    let Few : List Observer → Type 0 = λ os. length os ≤ limits.observers in
    record {
      first = omega arith;
      -- An entry is added only if there is a place for it.
      handled = λ store now s m same is few. observers_after Few store now s m (omega arith) few
          (omega (arith, few, token_fewer m.token s.observers)) (λ requested place.
          grind (arith, call_goes_on, length-append));
      plain = observers_plain Few (omega arith);
      responded = observers_responded Few (omega arith);
      reported = λ store now s few.
          grind (
            arith,
            observers_settled Few store now s (omega arith) few,
            becomes_fewer (is_due store now),
            left_one store now,
          );
    }

-- ---- pending entries

abbrev pub HoldsFew : History → Type 0
HoldsFew h = length h.pending ≤ h.limits.pending

-- Sending a message adds no entry.
sent_few : (h : History) (m less : Message) → HoldsFew h → HoldsFew (sent h m less)
sent_few h m less few = omega (arith, few, send_pending (state_now h) m less (fit (limit_now h) m less))

-- The due entry is removed.
taken_few : (h : History) (now : ℕ) → HoldsFew h → HoldsFew (without_first h now)
taken_few h now few = grind (arith, without_first h now, due_nothing now h.pending, due_fewer now h.pending)

-- An entry is added only if the list has room, and a stop removes all.
pub all_hold_few : KeepsAll (λ h k. HoldsFew h → HoldsFew k)
all_hold_few = record {
  composes = keeping_composes HoldsFew;
  takes_input = λ h m takes room few. pending_few (state_now h) m few;
  replies =
      λ h token observe r does room. grind (arith, sent_few h);
  holds = λ h by token moment opened may few. grind (arith, ltb-true, length-append);
  lets_go = taken_few;
  pongs = λ h now token due room few. grind (arith, sent_few, taken_few);
  rejects = λ h fault takes room few. omega arith;
  ends = λ h cut takes few. omega arith;
  releases = λ h opened none few. omega arith;
  announces = λ h size opened room fit few. few;
  responds = λ h m answering none few.
      grind (arith, send_pending, request_fewer (link_of h) m none);
  writes = λ h n within few. few;
}

-- ---- queued bytes

sent_one : (s : ConnectionState) (m less : Message) (r : Reply) → length (send_as s m less r).queued ≤ 1
sent_one s m less r = grind arith

-- A message queues at most one message.
message_one : (s : ConnectionState) (m : Message) → length (react s m).effect.queued ≤ 1
message_one s m = react_so s m (λ e. length e.queued ≤ 1) (grind arith)

-- The queued bytes do not exceed the size of the queue.
pub record Waits (h : History) : Type 0 where
  pub is : IsHistory h
  pub few : wait h ≤ h.limits.queue

waits_by : (h k : History) → GoesOn h k → (Waits h → wait k ≤ h.limits.queue) → Waits h → Waits k
waits_by h k goes less w = grind arith

-- If there is room, a message that fits is queued.
added_waits : (h k : History) (ms : List Message) → GoesOn h k → wait k ≡ wait (record h { queued = h.queued ++ ms })
    → room_in h ≡ true → length ms ≤ 1 → AllFit (limit_now h) ms → Waits h → Waits k
added_waits h k ms goes same room one each =
    grind (arith, waits_by, queued_waits, one_small, limit_within, leb-true)

pub all_wait : KeepsAll (λ h k. Waits h → Waits k)
all_wait = record {
  composes = keeping_composes Waits;
  takes_input = λ h m takes room. added_waits h _ _ (all_go_on.takes_input h m takes room) refl room
      (message_one (state_now h) m) (reaction_fits h m);
  replies = λ h token observe r does room.
      (let m = response_with_observe token observe r in
      added_waits h _ _ (all_go_on.replies h token observe r does room) refl room
      (sent_one (state_now h) m (bare_response m) _) (sent_fits h m (bare_response m)));
  holds = λ h by token moment opened may. waits_by h _ (all_go_on.holds h by token moment opened may) (λ w. w.few);
  lets_go = λ h now. waits_by h _ (all_go_on.lets_go h now) (λ w. w.few);
  pongs = λ h now token due room.
      (let k = without_first h now in
      let m = pong_with true token in
      let less = pong_with false token in
      added_waits h _ _ (all_go_on.pongs h now token due room) refl room
      (sent_one (state_now k) m less _) (sent_fits k m less));
  rejects = λ h fault takes room.
      added_waits h _ _ (all_go_on.rejects h fault takes room) refl room (abort_one (limit_now h) _)
      (stopped_fits h (reject_reason fault));
  ends = λ h cut takes. grind (arith, waits_by h, all_go_on.ends h cut takes, queued_waits h);
  releases = λ h opened none.
      grind (arith, waits_by, all_go_on.releases h opened none, queued_waits, release_bytes_small, release_fits);
  responds = λ h m answering none.
      grind (
        arith,
        waits_by h,
        all_go_on.responds h m answering none,
        responded_small (link_of h) m none,
        queued_waits h,
        sent_is,
      );
  announces = λ h size opened room fit.
      added_waits h _ _ (all_go_on.announces h size opened room fit) refl room (omega arith)
      (leb-true (length (spelling (own_csm size))) (limit_now h) fit, tt);
  writes = λ h n within.
      grind (arith, waits_by, all_go_on.writes h n within, length-drop);
}

-- ---- bytes kept of an unfinished frame

-- An unfinished frame has fewer bytes than the largest message that is accepted.
pub kept_within : (c : ConfigValues) (es : List AcceptedCall) (id : ℕ) (s : Connection) → AreInRange c.limits
    → AreAccepted c es → side_of id (world_after c es).sides ≡ Some s
    → length (kept_on s (stream_on c.limits.max_message id es).rest) < s.history.own_max
kept_within c es id s ranges accepted there =
    grind (arith, accepted_is, size_grows, unfinished_below, rest_unfinished, kept_small_by)

-- ---- a message that announces a size queues nothing

-- The message is a CSM whose options are all allowed.
announces : (m : Message) (n : ℕ) → announcement m ≡ Some n → (m.code ≡ code.csm) × (bad_csm_option m ≡ None)
announces m n e = grind (arith, eqb-true)

announcing_quiet : (s : ConnectionState) (m : Message) (n : ℕ) → announcement m ≡ Some n
    → (react s m).effect.queued ≡ []
unfolding react live_reaction
announcing_quiet s m n e = grind (arith, announces m n e)

-- ---- queued messages

-- Further messages are queued, and each fits the limit that applies afterwards.
pub record GrowsFitting (h k : History) : Type 0 where
  pub more : List Message
  pub queued : k.queued ≡ h.queued ++ more
  pub fit : AllFit (limit_now k) more

-- The same, and the limit does not change.
pub record GrowsEvenly (h k : History) : Type 0 where
  pub grows : GrowsFitting h k
  pub same : limit_now k ≡ limit_now h

-- Nothing was queued.
same_evenly : (h k : History) → k.queued ≡ h.queued → limit_now k ≡ limit_now h → GrowsEvenly h k
same_evenly h k queued limits = grind (arith, append-nil)

evenly_self : (h : History) → GrowsEvenly h h
evenly_self h = same_evenly h h refl refl

grows_fitting_then : (h k g : History) → GrowsFitting h k → GrowsEvenly k g → GrowsFitting h g
grows_fitting_then h k g p q = grind (arith, append_assoc, all_append)

evenly_then : (h k g : History) → GrowsEvenly h k → GrowsEvenly k g → GrowsEvenly h g
evenly_then h k g p q = grind (arith, grows_fitting_then)

effect_evenly : (h : History) (e : ReactionResult) → AllFit (limit_now h) e.queued → GrowsEvenly h (with_effect h e)
effect_evenly h e fit = grind arith

reply_evenly : Replies GrowsEvenly
reply_evenly h token observe r does room = grind (arith, effect_evenly h, sent_fits h)

-- A message that changes the limit queues nothing.
message_grows : Hears GrowsFitting
message_grows h m takes room =
    grind (arith, announced_more, reaction_fits, announcing_quiet)

-- ---- a step

once_evenly : (store : StoreValue) (now : ℕ) (s : Connection) → Between GrowsEvenly s (settled_once store now s)
once_evenly =
    once_between GrowsEvenly GrowsEvenly evenly_self evenly_then reply_evenly (λ h now. same_evenly h _ refl refl)
    (λ h now token due room. grind (arith, effect_evenly, sent_fits))

grows_of : (w : World) (st : Step) (id : ℕ) → HoldsOf (Between GrowsFitting) w st id
grows_of w st id = let same : (h : History) → GrowsFitting h h = λ h. (evenly_self h).grows in record {
  same = λ s. same s.history;
  handled = λ m is s.
      after_between GrowsFitting GrowsEvenly same grows_fitting_then message_grows evenly_self reply_evenly
      (λ h by token moment opened may. same_evenly h _ refl refl) w.store w.now s m;
  faulted = λ fault is s. faulted_between GrowsFitting same
      (λ h r takes room. (effect_evenly h _ (stopped_fits h (reject_reason r))).grows) s fault;
  written = written_between GrowsFitting same (λ h n within. (same_evenly h _ refl refl).grows);
  ended =
      ended_between GrowsFitting same
      (λ h cut takes. grind (arith, effect_evenly));
  released = released_between GrowsFitting same (λ h opened none.
      grind (arith, effect_evenly, released_fits));
  responded =
      responded_between GrowsFitting same (λ h m answering none. (effect_evenly h _ (responded_fits h m)).grows);
  announced = λ size is s. announced_between GrowsFitting same
      (λ h n opened room fit. grind (arith, leb-true)) s size;
  reported = λ store now s t is. grows_fitting_then s.history t.history _ is (once_evenly store now t);
}

-- A step only appends to the queued messages of a connection, and the appended ones fit.
pub step_fits : (limits : LimitValues) (w : World) (st : Step) (id : ℕ) (s t : Connection) → side_of id w.sides ≡ Some s
    → side_of id (world.step limits w st).sides ≡ Some t
    → (more : List Message) × (t.history.queued ≡ s.history.queued ++ more) × AllFit (limit_now t.history) more
step_fits limits w st id s t there then = grind (arith, step_across, grows_of w st id, same_there, none_or_some s)

-- If the step opened the connection, all its queued messages fit.
pub opening_fits : (limits : LimitValues) (w : World) (id : ℕ) (t : Connection) → AreInRange limits
    → side_of id w.sides ≡ None → side_of id (world.step limits w (world.Opened id)).sides ≡ Some t
    → AllFit (limit_now t.history) t.history.queued
opening_fits limits w id t ranges none then =
    let new : History = (new_side limits).history in
    let is : settled w.store w.now (new_side limits) ≡ t =
    same_there _ t (sym (opened_there limits w id none) ∙ then) in
    let evenly : GrowsEvenly new t.history = subst (λ (u : Connection). GrowsEvenly new u.history) is
    (settled_keeps (λ u. GrowsEvenly new u.history) w.store w.now
    (λ u grown. evenly_then new u.history _ grown (once_evenly w.store w.now u))
    (new_side limits) (evenly_self new)) in
    rw evenly.grows.queued
    (all_append _ new.queued evenly.grows.more (rw evenly.same (new_fits Server limits 0 ranges)) evenly.grows.fit)
