-- RFC 8323 section 5.4.1: the order of pending entries and of Pongs with Custody. Such a Pong says that every request
-- before its Ping was answered.
use Rattle.std.specs.Prelude.{◌≡◌, ◌≤◌, ◌⊎◌, ℕ, Bool, true, ◌&&◌, List, [], ◌∷◌, ◌++◌, length, Option, is_some, ◌==◌}
use Rattle.std.specs.List.{AllByRecursion, list_any}
use Rattle.coap_wire.specs.Message.{Message}
use Rattle.coap_wire.specs.Codes as code
use Rattle.coap_conn.specs.declared.reason.Reason.{Reason}
use Rattle.coap_conn.specs.declared.phase.Phase.TheVariants.{Stopped}
use Rattle.coap_conn.specs.PendingEntries.{PendingEntryValue, Answer, Pong}
use Rattle.coap_conn.specs.declared.pending.Responder.{Responder}
use Rattle.coap_conn.specs.declared.pending.Responder.TheVariants.{Engine, Application}
use Rattle.coap_conn.specs.Reaction.{asks_custody, is_custody_pong}
use Rattle.coap_path.specs.Paths.{same_bytes}
use Rattle.coap_path.specs.Applications.{ApplicationsValue}
use Rattle.coap_store.specs.Answer.{is_delayed}
use Rattle.coap_store.specs.ApplicationRequests.{application_deadline}
use Rattle.coap_model.specs.world.Connections.{Connection}

-- The message asks for a Pong with this token: it is a Ping with Custody and the token.
abbrev pub asks_pong : Message → List ℕ → Bool
asks_pong m token = m.code == code.ping && asks_custody m && same_bytes m.token token

-- The message is a request whose response is delayed by this responder. The engine delays that to a GET of `/async`,
-- and the application that to each request that it answers.
abbrev pub asks_delayed : Option ApplicationsValue → Responder → Message → Bool
asks_delayed a Engine m = is_delayed m
asks_delayed a Application m = is_some (application_deadline a m)

-- The message asks for this pending entry: a delayed response, or a Pong with Custody, with its token.
abbrev pub asks_pending : Option ApplicationsValue → Message → PendingEntryValue → Bool
asks_pending a m (Answer by token moment) = asks_delayed a by m && same_bytes m.token token
asks_pending a m (Pong token) = asks_pong m token

-- These messages asked for the entries: each entry has a message of its own, in the same order.
unfoldable pub CorrespondTo : Option ApplicationsValue → List Message → List PendingEntryValue → Type 0
CorrespondTo a ms [] = Unit {0}
CorrespondTo a [] (e ∷ es) = ⊥
CorrespondTo a (m ∷ ms) (e ∷ es) = ((asks_pending a m e ≡ true) × CorrespondTo a ms es) ⊎ CorrespondTo a ms (e ∷ es)

-- From one state of a connection to the next, messages are queued that include a Pong with Custody.
pub record QueuesCustody (before after : Connection) : Type 0 where
  pub more : List Message
  pub queued : after.history.queued ≡ before.history.queued ++ more
  pub pong : list_any is_custody_pong more ≡ true

-- The Pong with this token is the first pending entry.
pub record IsFirstPending (s : Connection) (token : List ℕ) : Type 0 where
  pub rest : List PendingEntryValue
  pub first : s.history.pending ≡ Pong token ∷ rest

-- All pending entries keep their places, perhaps with further ones after them; or the connection has stopped.
abbrev pub KeepsPending : Connection → Connection → Type 0
KeepsPending before after =
    ((more : List PendingEntryValue) × (after.history.pending ≡ before.history.pending ++ more))
    ⊎ ((why : Reason) × (after.history.phase ≡ Stopped why))

-- These entries are pending, or the connection has stopped.
abbrev pub KeepsBut : List PendingEntryValue → Connection → Type 0
KeepsBut pending after = (after.history.pending ≡ pending) ⊎ ((why : Reason) × (after.history.phase ≡ Stopped why))

-- At most one entry is added, and the message asks for it.
pub record AddsRequested (a : Option ApplicationsValue) (m : Message) (more : List PendingEntryValue) : Type 0 where
  pub few : length more ≤ 1
  pub requested : AllByRecursion (λ e. asks_pending a m e ≡ true) more

-- All pending entries keep their places over this message, followed by at most one for which it asks; or the connection
-- has stopped.
abbrev pub KeepsPendingOver : Option ApplicationsValue → Message → Connection → Connection → Type 0
KeepsPendingOver a m before after =
    ((more : List PendingEntryValue) × (after.history.pending ≡ before.history.pending ++ more)
    × AddsRequested a m more)
    ⊎ ((why : Reason) × (after.history.phase ≡ Stopped why))
