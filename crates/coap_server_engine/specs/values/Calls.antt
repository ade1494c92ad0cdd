-- Defined by this project: the calls that a monitor receives, as events of a server.
use Rattle.std.specs.Prelude.{◌+◌, ◌++◌, List, [], length, ℕ, Option, Some, None, Result, Ok, Err}
use Rattle.coap_wire.specs.Message.{Message}
use Rattle.coap_wire.specs.Reading.{message_of}
use Rattle.coap_wire.specs.declared.fault.FormatFault.{FormatFault}
use Rattle.coap_model.specs.world.Events.{AcceptedCall}
use Rattle.coap_model.specs.world.Events as event
use Rattle.coap_server_engine.specs.declared.monitor.Call.{Call}
use Rattle.coap_server_engine.specs.declared.monitor.Call.TheVariants as call

-- The message that was read. For bytes that encode none, which no server accepts as a response, this is the
-- empty message.
abbrev pub response_in : Result Message FormatFault → Message
response_in (Ok m) = m
response_in (Err e) = record { code = 0; token = []; options = []; payload = [] }

-- The event of a call.
abbrev pub call_value : Call → AcceptedCall
call_value (call.Took id bytes handled) = event.Took id bytes.now
call_value (call.Wrote id first second) = event.Wrote id (length first.now + length second.now)
call_value (call.Ticked now) = event.Ticked now
call_value (call.Stored path format bytes) = event.Stored path.now format bytes.now
call_value (call.Removed path) = event.Removed path.now
call_value (call.Ended id) = event.Ended id
call_value (call.Released id) = event.Released id
call_value (call.Responded id bytes) = event.Responded id (response_in (message_of bytes.now))
call_value (call.Announced id size) = event.Announced id size
call_value (call.Dropped id reason) = event.Dropped id

-- A statement of a monitor: a relation of the text that it had before, and the calls that it received since.
abbrev pub Following : Type 1
Following = List ℕ → List AcceptedCall → Type 0

-- The statement of a monitor that may be absent. Nothing is stated of an absent one.
abbrev pub follows_if : {M : Type 0} → (M → Following) → Option M → Following
follows_if follows None start calls = Unit {0}
follows_if follows (Some m) start calls = follows m start calls

-- The same for a statement on the end of a turn.
abbrev pub has_passed_if : {M : Type 0} → (M → Type 0) → Option M → Type 0
has_passed_if passed None = Unit {0}
has_passed_if passed (Some m) = passed m

-- After the calls that it had received before, a monitor has received these.
unfoldable pub FollowsMore : Following → Following → List AcceptedCall → Type 0
FollowsMore before after more =
    (start : List ℕ) (calls : List AcceptedCall) → before start calls → after start (calls ++ more)
