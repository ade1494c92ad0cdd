-- Defined by this project: the values by which contracts see the types `Client`, `Event` and `Taken`.
use Rattle.std.specs.Prelude.{◌≡◌, ℕ, Bool, List, Option, Some, None, Result, Ok, Err}
use Rattle.coap_wire.specs.Message.{Message}
use Rattle.coap_wire.specs.Reading.{message_of}
use Rattle.coap_wire.specs.Recognition.{first_critical}
use Rattle.coap_wire.specs.declared.fault.FormatFault.{FormatFault}
use Rattle.coap_frame.specs.Framing.{FramerValue, IsFramer, framing_of}
use Rattle.coap_conn.specs.Limits.{AreInRange}
use Rattle.coap_conn.specs.LinkValue.{LinkValue}
use Rattle.coap_client_engine.specs.ClientValues.{ClientValue, ClientEventValue, ClientTakeOutcome, response_event}
use Rattle.coap_client_engine.specs.ClientValues.{taking_found}
use Rattle.coap_client_engine.specs.ClientValues as value
use Rattle.coap_client_engine.specs.declared.client.Event.{Event}
use Rattle.coap_client_engine.specs.declared.client.Event.TheVariants.{Ready, Response, Notification, Rejected, Pong}
use Rattle.coap_client_engine.specs.declared.client.Event.TheVariants.{Stranger, Stopped}
use Rattle.coap_client_engine.specs.declared.client.Received.{Received}
use Rattle.coap_client_engine.specs.declared.client.Received.TheVariants as received
use Rattle.coap_client_engine.specs.declared.client.Taken.{Taken}
use Rattle.coap_client_engine.specs.declared.client.Client.TheInside.{Inside}

-- The state of a client: the bytes that its framer buffers, and its link.
abbrev pub client_value : Inside → ClientValue
client_value c = record { frame = c.framer.kept; link = c.link }

-- The invariant of a client: its limits are in range, and its framer accepts messages up to the size announced last.
pub record IsClient (c : Inside) : Type 0 where
  pub ranges : AreInRange c.link.limits
  pub greatest : c.framer.max ≡ c.link.own_max
  pub framer : IsFramer c.framer

abbrev pub is_client : Inside → Type 0
is_client c = IsClient c

-- The value of an event, without its place in memory.
abbrev pub event_value : Event → ClientEventValue
event_value Ready = value.Ready
event_value (Response m) = value.Response m
event_value (Notification m) = value.Notification m
event_value (Rejected token number) = value.Rejected token number
event_value (Pong token custody) = value.Pong token custody
event_value Stranger = value.Stranger
event_value (Stopped why) = value.Stopped why

-- ---- events of a frame that is parsed again

-- The event of a response, by the result of parsing its frame.
abbrev pub answer_read : Result Message FormatFault → Bool → Option ClientEventValue
answer_read (Ok m) last = Some (response_event m m.token last (first_critical m.options))
answer_read (Err e) last = None

-- The event of a Pong, by the result of parsing its frame.
abbrev pub pong_read : Result Message FormatFault → Bool → Option ClientEventValue
pong_read (Ok m) custody = Some (value.Pong m.token custody)
pong_read (Err e) custody = None

-- The event for a kind of event, by the result of parsing the frame.
abbrev pub received_event : Received → Result Message FormatFault → Option ClientEventValue
received_event received.Nothing read = None
received_event received.Ready read = Some value.Ready
received_event (received.Answer last) read = answer_read read last
received_event (received.Pong custody) read = pong_read read custody
received_event received.Stranger read = Some value.Stranger
received_event (received.Stopped why) read = Some (value.Stopped why)

-- The frame in the result of a `take`.
abbrev pub taken_frame : Taken → List ℕ
taken_frame t = t.frame.now

-- The event in the result of a `take`.
abbrev pub taken_event : Taken → Option ClientEventValue
taken_event t = received_event t.received (message_of (taken_frame t))

-- ---- the result of a framer and a link, if the client accepts bytes

-- The result of a `take` of `piece` by the framer `f` and the link `l`.
abbrev pub taking_framed : FramerValue → LinkValue → List ℕ → ClientTakeOutcome
taking_framed f l piece =
    taking_found (record { frame = f.kept; link = l }) (framing_of f piece) (framing_of f piece).finding
