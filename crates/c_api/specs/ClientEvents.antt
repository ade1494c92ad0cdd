-- Defined by this project: the event that a C program reads.
use Rattle.std.specs.Prelude.{◌≡◌, ℕ, List, [], length, Option, Some, None, nat_le, if◌then◌else◌}
use denote.Ref.{Bor}
use Rattle.coap_conn.specs.Reasons.{reason_number}
use Rattle.coap_wire.specs.Message.{Message}
use Rattle.coap_wire.specs.Uint.{uint_of}
use Rattle.coap_client_engine.specs.ClientValues.{ClientEventValue}
use Rattle.coap_client_engine.specs.ClientValues as event
use Rattle.c_api.specs.Loans.{HasBytes}
use Rattle.c_api.specs.Messages.{ShowsMessage}
use Rattle.c_api.specs.declared.events.ClientEvent.{ClientEvent}
use Rattle.c_api.specs.declared.messages.MessageSpans.{MessageSpans}

-- The number that a token encodes, or 0 if it has more than 8 bytes.
abbrev pub token_number : List ℕ → ℕ
token_number token = if nat_le (length token) 8 then uint_of token else 0

-- A message without bytes.
abbrev pub IsNoMessage : MessageSpans → Type 0
IsNoMessage m = (m.code ≡ 0) × (HasBytes [] m.token × (HasBytes [] m.options × HasBytes [] m.payload))

-- An event of this kind, without anything else.
abbrev pub IsKind : ℕ → ClientEvent → Type 0
IsKind kind e = (e.kind ≡ kind) × IsNoMessage e.message

abbrev pub IsPlain : (bytes kind : ℕ) → ClientEvent → Type 0
IsPlain bytes kind e =
    (e.bytes ≡ bytes) × ((e.reason ≡ 0) × ((e.option ≡ 0) × ((e.custody ≡ 0) × ((e.token ≡ 0) × IsKind kind e))))

-- The parts of an event besides its kind and its message.
abbrev pub HasParts : (reason option custody token : ℕ) → ClientEvent → Type 0
HasParts reason option custody token e =
    (e.reason ≡ reason) × ((e.option ≡ option) × ((e.custody ≡ custody) × (e.token ≡ token)))

-- A response. The spans of its message have the bytes of its parts, and lie in one slice of memory. The contract does
-- not say which slice.
abbrev pub IsMessageEvent : ℕ → Message → ClientEvent → Type 0
IsMessageEvent kind m e =
    (e.kind ≡ kind)
    × (HasParts 0 0 0 (token_number m.token) e × ((frame : Bor (List ℕ)) × ShowsMessage frame e.message m))

-- The event of a `take`. Its kind is 0 for nothing, 1 for the peer's first CSM, and 2 for the last response. It is 3
-- for a notification, 4 for a rejected response, 5 for a Pong, 6 for a stranger and 7 for a stop.
abbrev pub ShowsEvent : Option ClientEventValue → ClientEvent → Type 0
ShowsEvent None e = IsKind 0 e × HasParts 0 0 0 0 e
ShowsEvent (Some event.Ready) e = IsKind 1 e × HasParts 0 0 0 0 e
ShowsEvent (Some (event.Response m)) e = IsMessageEvent 2 m e
ShowsEvent (Some (event.Notification m)) e = IsMessageEvent 3 m e
ShowsEvent (Some (event.Rejected token number)) e = IsKind 4 e × HasParts 0 number 0 (token_number token) e
ShowsEvent (Some (event.Pong token custody)) e =
    IsKind 5 e × HasParts 0 0 (if custody then 1 else 0) (token_number token) e
ShowsEvent (Some event.Stranger) e = IsKind 6 e × HasParts 0 0 0 0 e
ShowsEvent (Some (event.Stopped why)) e = IsKind 7 e × HasParts (reason_number why) 0 0 0 e
