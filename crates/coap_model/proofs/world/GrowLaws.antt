-- The messages queued on a connection remain in its history, and only a write counts bytes as written.
use Rattle.std.proofs.Common.{◌≡◌, ℕ, List, [], ◌∷◌, ◌++◌, length, take, drop, Option, Some, None, refl, arith, map}
use Rattle.std.proofs.lemmas.Bool.{le-leb}
use Rattle.std.proofs.lemmas.List.{append-nil, take-append-le, take-append-drop}
use Rattle.std.proofs.Math.Seq.{take-add, take-length}
use Rattle.coap_model.specs.Prelude.{Message, StreamFault, LimitValues, History, IsHistory, bytes_of, StoreValue}
use Rattle.coap_model.specs.Prelude.{Connection, waiting_on, side_after, side_written, settled, ConfigValues, World}
use Rattle.coap_model.specs.Prelude.{side_of, after_steps, AcceptedCall, Took, stream_on, new_fault, steps_by}
use Rattle.coap_model.specs.Prelude.{world_after}
use Rattle.coap_conn.proofs.GrowLaws.{Grows, same_queue, grows_self, grows_then}
use Rattle.coap_conn.proofs.LinkLemmas.{bytes_more}
use Rattle.coap_model.specs.world.World as world
use Rattle.coap_model.proofs.world.WalkLaws.{Between, after_between, faulted_between, written_between, settled_between}
use Rattle.coap_model.proofs.world.AcrossLaws.{handled_there, faulted_there}
use Rattle.coap_model.proofs.world.StepLaws.{world_more}

-- ---- a connection

abbrev pub SideGrows : Connection → Connection → Type 0
SideGrows = Between Grows

after_grows : (store : StoreValue) (now : ℕ) (s : Connection) (m : Message) → SideGrows s (side_after store now s m)
after_grows =
    after_between Grows Grows grows_self grows_then
    (λ h m takes room. grind arith) grows_self
    (λ h token observe r does room. grind arith)
    (λ h by token moment opened may. same_queue h _ refl refl)

pub settled_grows : (store : StoreValue) (now : ℕ) (s : Connection) → SideGrows s (settled store now s)
settled_grows =
    settled_between Grows (record { same = grows_self; then = grows_then })
    (λ h token observe r does room. grind arith)
    (λ h now. same_queue h _ refl refl)
    (λ h now token due room. grind arith)

-- ---- written bytes

-- The bytes that were written.
abbrev pub front_written : Connection → List ℕ
front_written s = take s.history.written (bytes_of s.history.queued)

pub same_front : (s t : Connection) → IsHistory s.history → SideGrows s t → front_written t ≡ front_written s
same_front s t within grows =
    grind (arith, bytes_more, take-append-le)

-- All queued bytes are written.
pub written_all : (s : Connection)
    → front_written (side_written s (length (waiting_on s))) ≡ front_written s ++ waiting_on s
unfolding side_written
written_all s =
    grind (arith, le-leb, take-add, take-length)

-- If no bytes are queued, all were written.
pub none_waits_all_written : (s : Connection) → waiting_on s ≡ [] → front_written s ≡ bytes_of s.history.queued
none_waits_all_written s none =
    let B = bytes_of s.history.queued in
    cc (append-nil (take s.history.written B), take-append-drop s.history.written B)

-- ---- a take

abbrev SomeGrown : ℕ → World → Connection → Type 0
SomeGrown id w s = (t : Connection) × (side_of id w.sides ≡ Some t) × SideGrows s t

settles_grown : (id : ℕ) (w : World) (store : StoreValue) (now : ℕ) (s t : Connection)
    → side_of id w.sides ≡ Some (settled store now t) → SideGrows s t → SomeGrown id w s
settles_grown id w store now s t there more =
    grind (arith, grows_then s.history t.history, settled_grows store now t)

messages_grown : (limits : LimitValues) (w : World) (id : ℕ) (ms : List Message) (before after : Option StreamFault)
    (s : Connection) → side_of id w.sides ≡ Some s
    → SomeGrown id (after_steps limits w (map (world.Handled id) ms ++ new_fault id before after)) s
unfolding after_steps
messages_grown limits w id [] before None s is = (s, is, grows_self s.history)
messages_grown limits w id [] None (Some fault) s is =
    grind (
      arith,
      settles_grown id,
      faulted_there limits w id fault s is,
      faulted_between Grows grows_self,
      grows_self,
    )
messages_grown limits w id [] (Some old) (Some fault) s is = (s, is, grows_self s.history)
messages_grown limits w id (m ∷ ms) before after s is =
    let v = world.step limits w (world.Handled id m) in
    let there = handled_there limits w id m s is in
    let one =
    settles_grown id v there.0 w.now s (side_after w.store w.now s m) there.1 (after_grows w.store w.now s m) in
    let rest = messages_grown limits v id ms before after one.0 one.1 in
    (rest.0, rest.1, grows_then s.history one.0.history rest.0.history one.2 rest.2)

-- A take queues further messages, and writes nothing.
pub took_grows : (c : ConfigValues) (es : List AcceptedCall) (id : ℕ) (bytes : List ℕ) (s : Connection)
    → side_of id (world_after c es).sides ≡ Some s
    → (t : Connection) × (side_of id (world_after c (es ++ Took id bytes ∷ [])).sides ≡ Some t) × SideGrows s t
unfolding steps_by
took_grows c es id bytes s is =
    let before = stream_on c.limits.max_message id es in
    let after = stream_on c.limits.max_message id (es ++ Took id bytes ∷ []) in
    rw (world_more c es (Took id bytes))
    (messages_grown c.limits (world_after c es) id (drop (length before.messages) after.messages)
    before.fault after.fault s is)

-- ---- handled messages remain in the history

abbrev SameHandled : History → History → Type 0
SameHandled h k = k.handled ≡ h.handled

pub settled_handled : (store : StoreValue) (now : ℕ) (s : Connection)
    → (settled store now s).history.handled ≡ s.history.handled
settled_handled = grind (arith, settled_between SameHandled)

pub written_handled : (s : Connection) (n : ℕ) → (side_written s n).history.handled ≡ s.history.handled
written_handled = grind (arith, written_between SameHandled)
