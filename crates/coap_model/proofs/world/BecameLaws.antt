-- A connection after it accepted bytes: a message was handled, an error stopped it, or it is unchanged. Settling
-- handles no message.
use Rattle.std.proofs.Common.{◌≡◌, ℕ, Bool, true, false, List, [], ◌∷◌, ◌++◌, Some, None, refl, sym, ap, ◌∙◌, arith}
use Rattle.std.proofs.Common.{◌≢◌, rules}
use Rattle.std.proofs.lemmas.List.{append-nil}
use Rattle.coap_model.specs.Prelude.{Message, StreamFault, Stream, Phase, Reject, Reason, PendingEntryValue}
use Rattle.coap_model.specs.Prelude.{without_due, due_index, reject_of, reject_reason, History, StoreValue}
use Rattle.coap_model.specs.Prelude.{ConfigValues, Connection, handles, side_after, side_faulted, settled, new_side}
use Rattle.coap_model.specs.Prelude.{World, Step, side_of, AcceptedCall, Took, stream_on, steps_by, world_after}
use Rattle.coap_model.specs.Prelude.{spelled_on, message_reason, LimitValues}
use Rattle.coap_model.proofs.world.StepLaws.{world_same, world_step, nothing_spelled, world_first}
use Rattle.coap_model.proofs.world.TookLaws.{Adds}
use Rattle.coap_conn.proofs.ReactionLaws.{StopsAtMost}
use Rattle.coap_model.proofs.world.QueuedMessages.{sent_either}
use Rattle.coap_model.proofs.world.WalkLaws.{sent, Replies, LetsGo, Pongs, Responds, responded_between, settled_between}
use Rattle.coap_model.proofs.world.WalkLaws.{Between, once_between, written_between, ended_between, released_between}
use Rattle.coap_model.proofs.world.WalkLaws.{announced_between, holding}
use Rattle.coap_model.proofs.world.AcrossLaws.{handled_there, faulted_there, HoldsOf}
use Rattle.coap_model.proofs.world.PlaceLaws.{nobody}
use Rattle.coap_conn.specs.declared.phase.Phase.TheVariants as phase
use Rattle.coap_model.specs.world.World as world
use Rattle.coap_conn.proofs.PendingLaws.{due_pong}
use Rattle.coap_wire.proofs.NumberLaws.{none_or_some}
use Rattle.coap_model.proofs.world.CustodyLaws.{HasReceived, handled_hears}
use Rattle.coap_model.proofs.world.SideLaws.{handles_parts}

-- ---- sending handles no message

-- A connection that has stopped for a reason has no pending entry.
abbrev pub HasStopped : History → Reason → Type 0
HasStopped h why = (h.phase ≡ phase.Stopped why) × (h.pending ≡ [])

-- No message was handled since this history, and a stop is final.
pub record HandlesNothing (before : History) (received : List Message) (now : Phase)
    (pending : List PendingEntryValue) : Type 0 where
  pub handled : received ≡ before.handled
  pub stopped : (why : Reason) → HasStopped before why → (now ≡ phase.Stopped why) × (pending ≡ [])
  pub stops : StopsAtMost before.phase → StopsAtMost now

abbrev pub HandlesNone : History → History → Type 0
HandlesNone h k = HandlesNothing h k.handled k.phase k.pending

rests_self : (h : History) → HandlesNone h h
rests_self h = grind arith

rests_then : (h k g : History) → HandlesNone h k → HandlesNone k g → HandlesNone h g
rests_then h k g p q = search (rules, q.stopped, p.stopped, q.stops, p.stops)

-- A message is sent on a connection that has not stopped.
sent_rests : (h : History) (pending : List PendingEntryValue) (m less : Message)
    → ((why : Reason) → HasStopped h why → ⊥) → HandlesNone h (sent (holding h pending) m less)
sent_rests h pending m less live =
    grind (arith, sent_either)

response_rests : Replies HandlesNone
response_rests h token observe r does room = grind (arith, sent_rests)

-- If nothing is pending, nothing is due.
first_rests : LetsGo HandlesNone
unfolding without_due due_index
first_rests h now = grind arith

pong_rests : Pongs HandlesNone
pong_rests h now token due room =
    grind (arith, due_pong, sent_rests)

respond_rests : Responds HandlesNone
respond_rests h m answering none =
    grind (arith, sent_rests)

-- Settling handles no message.
pub settled_handles_none : (store : StoreValue) (now : ℕ) (s : Connection)
    → HandlesNone s.history (settled store now s).history
settled_handles_none =
    settled_between HandlesNone (record { same = rests_self; then = rests_then }) response_rests first_rests pong_rests

-- ---- an error

-- An error stops the connection, and no message was handled.
pub record HasRejected (fault : StreamFault) (h k : History) : Type 0 where
  pub handled : k.handled ≡ h.handled
  pub stopped : HasStopped k (reject_reason (reject_of fault))

pub side_rejects : (s : Connection) (fault : StreamFault) → handles s ≡ true
    → HasRejected fault s.history (side_faulted s fault).history
unfolding side_faulted
side_rejects s fault does = grind arith

-- Only an error of the input has such a reason.
pub no_message_reason : (fault : Reject) → message_reason (reject_reason fault) ≡ 0
no_message_reason fault = grind arith

-- ---- the steps of a take

-- The steps of a take: none, or that of the message or error that it completes. The flag says whether it handled a
-- message.
pub data TakesSo (M id : ℕ) (es : List AcceptedCall) (bytes : List ℕ) (s : Connection) (message : Bool) : Type 0 where
  NoStep : message ≡ false → steps_by M es (Took id bytes) ≡ []
      → (stream_on M id (es ++ Took id bytes ∷ [])).messages ≡ (stream_on M id es).messages
      → (stream_on M id (es ++ Took id bytes ∷ [])).fault ≡ (stream_on M id es).fault → TakesSo M id es bytes s message
  OneMessage : message ≡ true → handles s ≡ true → (m : Message)
      → Adds M id es bytes (record { messages = m ∷ []; rest = []; fault = None }) → TakesSo M id es bytes s message
  OneFault : message ≡ false → handles s ≡ true → (fault : StreamFault) (rest : List ℕ)
      → Adds M id es bytes (record { messages = []; rest = rest; fault = Some fault }) → TakesSo M id es bytes s message

-- ---- the connection after a take

-- The effect of a take on a connection whose stream grew from `before` to `after`:
-- - unchanged, if the stream has no further message and no new error;
-- - one message was handled, which may stop the connection;
-- - the error stopped the connection.
pub data Became (before after : Stream) (s t : Connection) (message : Bool) : Type 0 where
  Stayed : message ≡ false → t ≡ s → after.messages ≡ before.messages → after.fault ≡ before.fault
      → Became before after s t message
  Reacted : message ≡ true → handles s ≡ true → (m : Message) → t.history.handled ≡ s.history.handled ++ m ∷ []
      → StopsAtMost t.history.phase → after.messages ≡ before.messages ++ m ∷ [] → after.fault ≡ None
      → Became before after s t message
  Rejected : message ≡ false → handles s ≡ true → (fault : StreamFault) → HasRejected fault s.history t.history
      → after.messages ≡ before.messages → after.fault ≡ Some fault → Became before after s t message

-- A connection that accepts messages has not stopped.
live_stop : (s : Connection) → handles s ≡ true → StopsAtMost s.history.phase
live_stop s does = grind arith

module _ (c : ConfigValues) (es : List AcceptedCall) (id : ℕ) (bytes : List ℕ) (s : Connection) (message : Bool)
    (there : side_of id (world_after c es).sides ≡ Some s) where
  abbrev w : World
  w = world_after c es

  abbrev pub BecameOne : Type 0
  BecameOne = (t : Connection) × (side_of id (world_after c (es ++ Took id bytes ∷ [])).sides ≡ Some t)
      × Became (stream_on c.limits.max_message id es)
      (stream_on c.limits.max_message id (es ++ Took id bytes ∷ [])) s t message

  pub became : TakesSo c.limits.max_message id es bytes s message → BecameOne
  unfolding side_after
  became (NoStep e steps messages fault) = (
    s,
    ap (λ v. side_of id v.sides) (world_same c es (Took id bytes) steps) ∙ there,
    Stayed e refl messages fault,
  )
  became (OneMessage e does m adds) =
      let after = handled_there c.limits w id m s there in
      let received : HasReceived w.store.applications m s.history (side_after w.store w.now s m).history =
      rw does (handled_hears w.store w.now s m) in
      let rests = settled_handles_none after.0 w.now (side_after w.store w.now s m) in (
        settled after.0 w.now (side_after w.store w.now s m),
        ap (λ v. side_of id v.sides) (world_step c es (Took id bytes) (world.Handled id m) adds.steps)
            ∙ after.1,
        Reacted e does m (rests.handled ∙ received.handled_more (handles_parts s does).0)
            (rests.stops (received.stops (live_stop s does)))
            (ap (λ u. u.messages) adds.stream) (ap (λ u. u.fault) adds.stream),
      )
  became (OneFault e does fault rest adds) =
      let rejects = side_rejects s fault does in
      let rests = settled_handles_none w.store w.now (side_faulted s fault) in (
        settled w.store w.now (side_faulted s fault),
        ap (λ v. side_of id v.sides) (world_step c es (Took id bytes) (world.Faulted id fault) adds.steps)
            ∙ faulted_there c.limits w id fault s there,
        Rejected e does fault (record {
          handled = grind arith;
          stopped = rests.stopped (reject_reason (reject_of fault)) rejects.stopped;
        })
            (grind (arith, append-nil))
            (ap (λ u. u.fault) adds.stream),
      )

-- ---- other steps

-- The step is no message and no error of this connection.
abbrev pub IsElsewhere : Step → ℕ → Type 0
IsElsewhere (world.Handled at m) id = at ≢ id
IsElsewhere (world.Faulted at fault) id = at ≢ id
IsElsewhere other id = Unit {0}

pub rests_of : (w : World) (st : Step) (id : ℕ) → IsElsewhere st id → HoldsOf (Between HandlesNone) w st id
rests_of w st id away = record {
  same = λ s. rests_self s.history;
  handled = λ m is s. grind arith;
  faulted = λ fault is s. grind arith;
  written = written_between HandlesNone rests_self (λ h n within. rests_self h);
  ended = grind (arith, ended_between HandlesNone rests_self, rests_self);
  released = grind (arith, released_between HandlesNone rests_self, rests_self);
  announced = λ size is s. grind (arith, announced_between HandlesNone rests_self, rests_self);
  responded = responded_between HandlesNone rests_self respond_rests;
  reported = λ store now s t is.
      grind (
        arith,
        rests_then s.history t.history,
        once_between HandlesNone HandlesNone rests_self rests_then response_rests first_rests pong_rests store now t,
      );
}

-- ---- a connection handled the messages of its stream

pub record Agrees (u : Stream) (s : Connection) : Type 0 where
  pub handled : s.history.handled ≡ u.messages
  pub stopped : (fault : StreamFault) → u.fault ≡ Some fault → HasStopped s.history (reject_reason (reject_of fault))

pub rests_agrees : (u : Stream) (s t : Connection) → Agrees u s → Between HandlesNone s t → Agrees u t
rests_agrees u s t is rests = record {
  handled = grind arith;
  stopped = λ fault e. rests.stopped (reject_reason (reject_of fault)) (is.stopped fault e);
}

pub silent_agrees : (limits : LimitValues) (M id : ℕ) (es : List AcceptedCall) → spelled_on M id es ≡ nothing_spelled M
    → Agrees (stream_on M id es) (new_side limits)
silent_agrees limits M id es none = grind arith

pub became_agrees : (u v : Stream) (s t : Connection) (message : Bool) → Became u v s t message
    → Agrees u s → Agrees v t
became_agrees u v s t message (Stayed none same messages fault) is =
    rw same (record { handled = is.handled ∙ sym messages; stopped = λ f e. is.stopped f (sym fault ∙ e) })
became_agrees u v s t message (Reacted one does m handled stops messages fault) is = grind arith
became_agrees u v s t message (Rejected none does fault rejects messages at) is = grind arith

-- ---- after accepted events

abbrev pub AgreesOn : ConfigValues → List AcceptedCall → ℕ → Type 0
AgreesOn c es id =
    (s : Connection) → side_of id (world_after c es).sides ≡ Some s → Agrees (stream_on c.limits.max_message id es) s

pub first_agrees : (c : ConfigValues) (id : ℕ) → AgreesOn c [] id
first_agrees c id s there = grind (arith, none_or_some, world_first, nobody)
