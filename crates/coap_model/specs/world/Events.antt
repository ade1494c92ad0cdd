-- Defined by this project: the events of a server, the steps that they make, and the world after them.
use Rattle.std.specs.Prelude.{◌≡◌, ℕ, ◌+◌, ◌<◌, ◌≤◌, true, List, [], ◌∷◌, ◌++◌, length, map, drop, Option, Some, None}
use Rattle.std.specs.Prelude.{nat_lt, ◌==◌, ◌&&◌, if◌then◌else◌}
use Rattle.coap_wire.specs.Message.{Message}
use Rattle.coap_wire.specs.Frames.{Sizes, constant_size, sizes_first}
use Rattle.coap_wire.specs.Stream.{StreamFault, Stream, sized_split}
use Rattle.coap_frame.specs.Framing.{framing}
use Rattle.coap_conn.specs.History.{link_of}
use Rattle.coap_conn.specs.Release.{release_refusal}
use Rattle.coap_conn.specs.Responses.{response_refusal}
use Rattle.coap_path.specs.Paths.{Path}
use Rattle.coap_store.specs.Refusals.{put_refusal, remove_refusal}
use Rattle.coap_model.specs.Configs.{ConfigValues}
use Rattle.coap_model.specs.world.Connections.{Connection, handles, waiting_on, is_cut, may_raise}
use Rattle.coap_model.specs.world.World.{World, Step, new_world, side_of, ticks, after_steps}
use Rattle.coap_model.specs.world.World as step

-- An event: a call that the server accepted.
-- - `Opened`: `open` returned this id.
-- - `Took`: `take` accepted these bytes on a connection.
-- - `Wrote`: the caller wrote n of the queued bytes.
-- - `Ticked`: the time was set, in seconds.
-- - `Stored`, `Removed`: the embedding program changed a resource.
-- - `Ended`: the input of a connection ended.
-- - `Released`, `Announced`: the server sent a Release, or a CSM with a new size.
-- - `Responded`: the application responded with this message to a request that it answers.
-- - `Dropped`: a connection was removed.
-- A call that returns an error is no event. There is one exception: a `take` for which allocation failed is the event
-- of the bytes that it accepted.
pub data AcceptedCall : Type 0 where
  Opened : (id : ℕ) → AcceptedCall
  Took : (id : ℕ) (bytes : List ℕ) → AcceptedCall
  Wrote : (id n : ℕ) → AcceptedCall
  Ticked : (now : ℕ) → AcceptedCall
  Stored : (path : Path) (format : Option ℕ) (bytes : List ℕ) → AcceptedCall
  Removed : (path : Path) → AcceptedCall
  Ended : (id : ℕ) → AcceptedCall
  Released : (id : ℕ) → AcceptedCall
  Announced : (id size : ℕ) → AcceptedCall
  Responded : (id : ℕ) (m : Message) → AcceptedCall
  Dropped : (id : ℕ) → AcceptedCall

-- ---- steps

-- The bytes that an event accepted on a connection; none unless it is a `Took` of this connection.
abbrev pub taken_in : ℕ → AcceptedCall → List ℕ
taken_in id (Opened other) = []
taken_in id (Took other bytes) = if other == id then bytes else []
taken_in id (Wrote other n) = []
taken_in id (Ticked now) = []
taken_in id (Stored path format bytes) = []
taken_in id (Removed path) = []
taken_in id (Ended other) = []
taken_in id (Released other) = []
taken_in id (Announced other size) = []
taken_in id (Responded other m) = []
taken_in id (Dropped other) = []

-- All bytes accepted on a connection, in order.
unfoldable pub taken_on : ℕ → List AcceptedCall → List ℕ
taken_on id [] = []
taken_on id (e ∷ es) = taken_in id e ++ taken_on id es

-- The largest message that a connection accepts after an event, if it accepted messages of at most M bytes before. Only
-- the announcement of a larger size on this connection changes it.
abbrev pub size_by : ℕ → AcceptedCall → ℕ → ℕ
size_by id (Announced other size) M = if other == id && nat_lt M size then size else M
size_by id other M = M

-- The largest message that a connection accepts after events, if it accepts messages of at most M bytes at first.
unfoldable pub size_on : ℕ → ℕ → List AcceptedCall → ℕ
size_on M id [] = M
size_on M id (e ∷ es) = size_on (size_by id e M) id es

-- RFC 8323 section 5.3.1: for each byte accepted on a connection, the largest message that the connection accepted when
-- this byte came. Bytes after these events have the last size.
unfoldable pub sizes_on : ℕ → ℕ → List AcceptedCall → Sizes
sizes_on M id [] = constant_size M
sizes_on M id (e ∷ es) = sizes_first (length (taken_in id e)) M (sizes_on (size_by id e M) id es)

-- The stream of all bytes accepted on a connection: its messages, the bytes left over, and the error that ended it, if
-- any.
abbrev pub stream_on : ℕ → ℕ → List AcceptedCall → Stream
stream_on M id events = sized_split (sizes_on M id events) (taken_on id events)

-- This stream, together with the largest message that the connection accepts after the events.
abbrev pub spelled_on : ℕ → ℕ → List AcceptedCall → Stream × ℕ
spelled_on M id events = (stream_on M id events, size_on M id events)

-- The step of an error that is in a stream now and was not in it before; no step if there is no such error.
abbrev pub new_fault : ℕ → Option StreamFault → Option StreamFault → List Step
new_fault id before None = []
new_fault id None (Some fault) = step.Faulted id fault ∷ []
new_fault id (Some old) (Some fault) = []

-- The steps of a stream that continues another one: its further messages, then its error if that is new.
abbrev pub beyond : ℕ → Stream → Stream → List Step
beyond id before after =
    map (step.Handled id) (drop (length before.messages) after.messages) ++ new_fault id before.fault after.fault

-- The steps of an event that follows earlier events. `Took` makes a step for each message that its bytes complete, and
-- then one for a new error, if any. Every other event makes one step. That of `Ended` also says whether bytes are left
-- after the last message.
unfoldable pub steps_by : ℕ → List AcceptedCall → AcceptedCall → List Step
steps_by M earlier (Opened id) = step.Opened id ∷ []
steps_by M earlier (Took id bytes) = beyond id (stream_on M id earlier) (stream_on M id (earlier ++ Took id bytes ∷ []))
steps_by M earlier (Wrote id n) = step.Written id n ∷ []
steps_by M earlier (Ticked now) = step.Ticked now ∷ []
steps_by M earlier (Stored path format bytes) = step.Stored path format bytes ∷ []
steps_by M earlier (Removed path) = step.Removed path ∷ []
steps_by M earlier (Ended id) = step.Ended id (is_cut (stream_on M id earlier).rest) ∷ []
steps_by M earlier (Released id) = step.Released id ∷ []
steps_by M earlier (Announced id size) = step.Announced id size ∷ []
steps_by M earlier (Responded id m) = step.Responded id m ∷ []
steps_by M earlier (Dropped id) = step.Dropped id ∷ []

-- The steps of a list of events that follows earlier events.
unfoldable pub later_steps : ℕ → List AcceptedCall → List AcceptedCall → List Step
later_steps M earlier [] = []
later_steps M earlier (e ∷ es) = steps_by M earlier e ++ later_steps M (earlier ++ e ∷ []) es

-- The steps of a list of events, from the start of the server.
unfoldable pub steps_of : ℕ → List AcceptedCall → List Step
steps_of M events = later_steps M [] events

-- The world after a list of events, from the start of a server with this configuration.
unfoldable pub world_after : ConfigValues → List AcceptedCall → World
world_after c events = after_steps c.limits (new_world c) (steps_of c.limits.max_message events)

-- ---- the bytes that a call accepts

-- The number of bytes of an input slice up to the end of its first frame or to the byte of an error; otherwise all.
-- `rest` has the bytes of the unfinished frame before the slice.
abbrev pub front_of : ℕ → List ℕ → List ℕ → ℕ
front_of M rest piece = (framing M rest piece).taken

-- The same for an input slice that is offered to a connection. It is 0 if the connection does not exist or does not
-- handle messages now.
abbrev pub takes_of : ℕ → List ℕ → List ℕ → Option Connection → ℕ
takes_of M rest piece None = 0
takes_of M rest piece (Some s) = if handles s then front_of M rest piece else 0

-- The number of bytes of an input slice that `take` accepts after these events. It is 0 if the connection does not
-- exist, its queue has no room, or it no longer accepts messages.
unfoldable pub takes : ConfigValues → List AcceptedCall → ℕ → List ℕ → ℕ
takes c events id piece =
    takes_of (size_on c.limits.max_message id events) (stream_on c.limits.max_message id events).rest piece
    (side_of id (world_after c events).sides)

-- ---- accepted events

-- The connection exists and has the property P.
abbrev pub IfSide : Option Connection → (Connection → Type 0) → Type 0
IfSide None P = ⊥
IfSide (Some s) P = P s

-- The connection with this id exists in a world and has the property P.
abbrev pub OnSide : ℕ → World → (Connection → Type 0) → Type 0
OnSide id w P = IfSide (side_of id w.sides) P

-- A server after the earlier events accepts this event.
-- - `Opened`: the id is the last one plus 1 and fits in 64 bits, and the connection limit is not reached.
-- - `Took`: the connection accepts all these bytes (`takes`).
-- - `Wrote`: at least n bytes are queued.
-- - `Ticked`: the time is not earlier than the current one, and fits in 64 bits.
-- - `Stored`, `Removed`: `put_refusal` or `remove_refusal` gives no error.
-- - `Ended`, `Dropped`: always.
-- - `Released`: `release_refusal` gives no error.
-- - `Announced`: the connection may announce the size (`may_raise`).
-- - `Responded`: `response_refusal` gives no error. So a request with the token is pending.
-- The connection that an event names must exist, except for `Opened`.
unfoldable pub IsAccepted : ConfigValues → List AcceptedCall → AcceptedCall → Type 0
IsAccepted c earlier (Opened id) =
    (id ≡ (world_after c earlier).ids + 1) × (id ≤ 18446744073709551615)
    × (length (world_after c earlier).sides < c.connections)
IsAccepted c earlier (Took id bytes) = OnSide id (world_after c earlier) (λ s. takes c earlier id bytes ≡ length bytes)
IsAccepted c earlier (Wrote id n) = OnSide id (world_after c earlier) (λ s. n ≤ length (waiting_on s))
IsAccepted c earlier (Ticked now) = ticks (world_after c earlier).now now ≡ true
IsAccepted c earlier (Stored path format bytes) = put_refusal (world_after c earlier).store path bytes ≡ None
IsAccepted c earlier (Removed path) = remove_refusal (world_after c earlier).store path ≡ None
IsAccepted c earlier (Ended id) = OnSide id (world_after c earlier) (λ s. Unit {0})
IsAccepted c earlier (Released id) = OnSide id (world_after c earlier) (λ s. release_refusal (link_of s.history) ≡ None)
IsAccepted c earlier (Announced id size) = OnSide id (world_after c earlier) (λ s. may_raise s size ≡ true)
IsAccepted c earlier (Responded id m) =
    OnSide id (world_after c earlier) (λ s. response_refusal (link_of s.history) m ≡ None)
IsAccepted c earlier (Dropped id) = OnSide id (world_after c earlier) (λ s. Unit {0})

-- Each of these events is accepted after the earlier events and those before it.
unfoldable pub AreAcceptedAfter : ConfigValues → List AcceptedCall → List AcceptedCall → Type 0
AreAcceptedAfter c earlier [] = Unit {0}
AreAcceptedAfter c earlier (e ∷ es) = IsAccepted c earlier e × AreAcceptedAfter c (earlier ++ e ∷ []) es

-- Each of these events is accepted after those before it, from the start of the server.
abbrev pub AreAccepted : ConfigValues → List AcceptedCall → Type 0
AreAccepted c events = AreAcceptedAfter c [] events
