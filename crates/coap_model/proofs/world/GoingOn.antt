-- A history that continues another one: it belongs to the same connection, and accepts no messages if the earlier one
-- did not. Each call keeps these properties.
use Rattle.std.proofs.Common.{◌≡◌, ℕ, ◌≤◌, true, false, List, length, Option, Some, refl, ◌∙◌, arith}
use Rattle.std.proofs.lemmas.Bool.{true_from_ne_false}
use Rattle.std.proofs.lemmas.List.{length-drop}
use Rattle.coap_model.specs.Prelude.{Message, StreamFault, Reply, Server, LimitValues, takes_messages}
use Rattle.coap_model.specs.Prelude.{PendingEntryValue, ConnectionState, ReactionResult, send_as, due_effect, History}
use Rattle.coap_model.specs.Prelude.{IsHistory, with_effect, after, link_of, Call, call_effect, StoreValue}
use Rattle.coap_model.specs.Prelude.{ApplicationsValue, ConfigValues, Connection, new_side, handles, side_after}
use Rattle.coap_model.specs.Prelude.{side_faulted, side_responded, late_message, after_sent, settled_once, settled}
use Rattle.coap_model.specs.Prelude.{World, Step, side_of, AcceptedCall, world_after}
use Rattle.coap_conn.specs.PendingEntries as pending
use Rattle.coap_conn.specs.Calls.{IsWithin}
use Rattle.coap_conn.specs.Calls as call
use Rattle.coap_conn.proofs.LinkLemmas.{new_shown, history_more}
use Rattle.coap_model.proofs.world.WalkLaws.{sent, holding, Between, settled_between, PlainCall, plain_between, Fault}
use Rattle.coap_model.proofs.world.WalkLaws.{Write, End, Release, Announcement}
use Rattle.coap_model.proofs.world.AcrossLaws.{kept_by, kept_where, applications_stay, HoldsOf, KeepsAll, all_across}

-- ---- properties that are kept

-- A history continues another: it is one of the same connection, and does not accept messages again after a stop.
pub record GoesOn (before after : History) : Type 0 where
  pub role : after.role ≡ before.role
  pub limits : after.limits ≡ before.limits
  pub history : IsHistory before → IsHistory after
  pub over : takes_messages before.phase ≡ false → takes_messages after.phase ≡ false

pub as_before : (h : History) → GoesOn h h
as_before h = grind arith

pub further : (g h k : History) → GoesOn g h → GoesOn h k → GoesOn g k
further g h k one two = grind arith

-- If it accepts messages, the earlier one did.
pub was_live : (h k : History) → GoesOn h k → takes_messages k.phase ≡ true → takes_messages h.phase ≡ true
was_live h k goes takes = grind (arith, true_from_ne_false)

-- ---- each part of an effect

-- More messages are queued.
pub effect_goes_on : (h : History) (e : ReactionResult)
    → (takes_messages h.phase ≡ false → takes_messages e.phase ≡ false) → GoesOn h (with_effect h e)
effect_goes_on h e over = grind (arith, history_more)

sent_over : (s : ConnectionState) (m less : Message) (r : Reply) → takes_messages s.phase ≡ false
    → takes_messages (send_as s m less r).phase ≡ false
sent_over s m less r e = grind arith

pub sent_goes_so : (h : History) (m less : Message) → GoesOn h (sent h m less)
sent_goes_so h m less = grind (arith, effect_goes_on, sent_over)

pub holding_so : (h : History) (pending : List PendingEntryValue) → GoesOn h (holding h pending)
holding_so h pending = grind arith

pub written_goes_on : (h : History) (n : ℕ) → n ≤ length (link_of h).waiting → GoesOn h (after h (call.Written n))
written_goes_on h n within = grind (arith, length-drop)

pub all_go_on : KeepsAll GoesOn
all_go_on = grind (
  arith,
  as_before,
  further,
  history_more,
  sent_goes_so,
  holding_so,
  effect_goes_on,
  sent_over,
  written_goes_on,
)

-- ---- each call

due_over : (s : ConnectionState) (first : Option PendingEntryValue) → takes_messages s.phase ≡ false
    → takes_messages (due_effect s first).phase ≡ false
due_over s first e = grind (arith, sent_over)

-- No call changes the fixed values of a connection, or makes it accept messages again.
pub call_goes_on : (h : History) (c : Call) → IsWithin (link_of h) (call_effect (link_of h) c).deed
    → GoesOn h (after h c)
call_goes_on h c within = grind (
  arith,
  as_before,
  sent_goes_so,
  holding_so,
  effect_goes_on,
  sent_over,
  due_over,
  written_goes_on,
  history_more,
)

-- The first due entry is removed, and its message is sent.
pub sent_goes_on : (h : History) (now : ℕ) (e : PendingEntryValue) → GoesOn h (after_sent h now e)
sent_goes_on h now (pending.Answer by token moment) =
    let k = after h (call.Due now) in
    further h k _ (call_goes_on h (call.Due now) tt) (call_goes_on k (call.Reply (late_message by token)) tt)
sent_goes_on h now (pending.Pong token) = call_goes_on h (call.Due now) tt

pub settled_goes_on : (store : StoreValue) (now : ℕ) (s : Connection) → Between GoesOn s (settled store now s)
settled_goes_on = settled_between GoesOn all_go_on.composes all_go_on.replies all_go_on.lets_go all_go_on.pongs

pub plain_goes_on : (s t : Connection) → PlainCall s t → Between GoesOn s t
plain_goes_on =
    plain_between GoesOn as_before all_go_on.rejects all_go_on.writes all_go_on.ends all_go_on.releases
    all_go_on.announces

-- ---- stops

-- An error stops a connection that accepts messages.
pub faulted_stops : (s : Connection) (fault : StreamFault) → handles s ≡ true
    → takes_messages (side_faulted s fault).history.phase ≡ false
unfolding side_faulted
faulted_stops s fault does = grind arith

-- ---- properties of every connection of a server

-- No more bytes were written than were queued. The connection has these limits and is the server's end.
pub record IsSide (limits : LimitValues) (s : Connection) : Type 0 where
  pub is_history : IsHistory s.history
  pub same_limits : s.history.limits ≡ limits
  pub is_server : s.history.role ≡ Server

pub follower_is : (limits : LimitValues) (s t : Connection) → Between GoesOn s t → IsSide limits s → IsSide limits t
follower_is limits s t goes is = grind arith

pub new_side_is : (limits : LimitValues) → IsSide limits (new_side limits)
new_side_is limits = grind (arith, new_shown)

-- The connection with an id has these properties.
pub side_is : (c : ConfigValues) (es : List AcceptedCall) (id : ℕ) (s : Connection)
    → side_of id (world_after c es).sides ≡ Some s → IsSide c.limits s
side_is c =
    kept_by c (Between GoesOn) (IsSide c.limits) (new_side_is c.limits) (follower_is c.limits)
    (all_across GoesOn all_go_on)

-- A property that a new connection has and that every effect keeps, in a server with these applications.
pub record Keeps (limits : LimitValues) (a : Option ApplicationsValue) (P : Connection → Type 0) : Type 0 where
  pub first : P (new_side limits)
  pub handled : (store : StoreValue) (now : ℕ) (s : Connection) (m : Message) → store.applications ≡ a → IsSide limits s
      → P s → P (side_after store now s m)
  pub plain : (s t : Connection) → PlainCall s t → P s → P t
  pub responded : (s : Connection) (m : Message) → P s → P (side_responded s m)
  pub reported : (store : StoreValue) (now : ℕ) (s : Connection) → P s → P (settled_once store now s)

-- Each connection continues the earlier one, and has the property afterwards.
abbrev GoesOnKeeping : LimitValues → (Connection → Type 0) → Connection → Connection → Type 0
GoesOnKeeping limits P s t = Between GoesOn s t × (IsSide limits s → P s → P t)

keeps_hold : (limits : LimitValues) (a : Option ApplicationsValue) (P : Connection → Type 0) → Keeps limits a P
    → (w : World) (st : Step) (id : ℕ) → w.store.applications ≡ a → HoldsOf (GoesOnKeeping limits P) w st id
keeps_hold limits a P keeps w st id same =
    let goes = all_across GoesOn all_go_on w st id in
    record {
      same = λ s. grind arith;
      handled = λ m at s. (goes.handled m at s, keeps.handled w.store w.now s m same);
      faulted = λ fault at s. (goes.faulted fault at s, λ side. keeps.plain s _ (Fault fault));
      written = λ s n. (goes.written s n, λ side. keeps.plain s _ (Write n));
      ended = λ s cut. (goes.ended s cut, λ side. keeps.plain s _ (End cut));
      released = λ s. (goes.released s, λ side. keeps.plain s _ Release);
      announced = λ size at s. (goes.announced size at s, λ side. keeps.plain s _ (Announcement size));
      responded = λ s m. grind arith;
      reported =
          λ store now s t before. grind arith;
    }

-- So each connection has the property after any events.
pub kept_after : (c : ConfigValues) (P : Connection → Type 0) → Keeps c.limits c.applications P
    → (es : List AcceptedCall) (id : ℕ) (s : Connection) → side_of id (world_after c es).sides ≡ Some s → P s
kept_after c P keeps es id s there =
    (kept_where c (λ w. w.store.applications ≡ c.applications) refl
    (λ w st same. applications_stay c.limits w st ∙ same)
    (GoesOnKeeping c.limits P) (λ t. IsSide c.limits t × P t) (new_side_is c.limits, keeps.first)
    (λ s t goes is. (follower_is c.limits s t goes.0 is.0, goes.1 is.0 is.1))
    (keeps_hold c.limits c.applications P keeps) es id s there).1
