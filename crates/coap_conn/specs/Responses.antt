-- Defined by this project: the responses of the application to requests that wait for them, and the errors of
-- `Link::respond`.
use Rattle.std.specs.Prelude.{ℕ, Bool, not, ◌&&◌, length, Option, Some, None, Result, Ok, Err, nat_lt, ◌==◌}
use Rattle.std.specs.Prelude.{if◌then◌else◌}
use Rattle.std.specs.List.{list_any}
use Rattle.coap_wire.specs.Message.{Message}
use Rattle.coap_wire.specs.OptionNumbers as number
use Rattle.coap_wire.specs.declared.fault.FormatFault.{FormatFault}
use Rattle.coap_conn.specs.declared.phase.RespondFault.{RespondFault}
use Rattle.coap_conn.specs.declared.phase.RespondFault.TheVariants.{NoSuchRequest, NotAResponse, NoRoom}
use Rattle.coap_conn.specs.Fit.{fit, fitted, bare_response}
use Rattle.coap_conn.specs.PendingEntries.{has_request}
use Rattle.coap_conn.specs.Reaction.{is_response}
use Rattle.coap_conn.specs.LinkValue.{LinkValue, bytes_of, free_in, limit_in}

-- True if a message has an Observe option.
abbrev pub observes : Message → Bool
observes m = list_any (λ o. o.number == number.observe) m.options

-- True if a message may answer a request for the application: its code has class 2, 4 or 5, and it has no Observe
-- option. Only the engine adds observers.
abbrev pub is_plain_response : Message → Bool
is_plain_response m = is_response m && not (observes m)

-- The number of bytes that are queued of a response: those of the whole response, of the bare one, or none.
abbrev pub sent_length : ℕ → Message → ℕ
sent_length limit m = length (bytes_of (fitted m (bare_response m) (fit limit m (bare_response m))))

-- The error if the queue has no room for the response as it is sent.
abbrev pub room_refusal : LinkValue → Message → Option RespondFault
room_refusal v m = if nat_lt (free_in v) (sent_length (limit_in v) m) then Some NoRoom else None

-- The error of `Link::respond` for this message, if it fails.
unfoldable pub response_refusal : LinkValue → Message → Option RespondFault
response_refusal v m =
    if has_request m.token v.pending
    then (if is_plain_response m then room_refusal v m else Some NotAResponse)
    else Some NoSuchRequest

-- The error of `Link::respond` for bytes that encode this message, or none.
abbrev pub frame_refusal : LinkValue → Result Message FormatFault → Option RespondFault
frame_refusal v (Ok m) = response_refusal v m
frame_refusal v (Err e) = Some NotAResponse

-- The property P holds for the message of a frame, if there is one.
abbrev pub OnMessage : Result Message FormatFault → (Message → Type 0) → Type 0
OnMessage (Ok m) P = P m
OnMessage (Err e) P = Unit {0}
