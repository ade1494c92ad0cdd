-- Defined by this project: the phases that accept messages, and those that send responses.
use Rattle.std.specs.Prelude.{◌≡◌, Bool, true, false, Option, Some, None, is_none, is_some}
use Rattle.coap_conn.specs.declared.reason.Reason.{Reason}
use Rattle.coap_conn.specs.declared.phase.Phase.{Phase}
use Rattle.coap_conn.specs.declared.phase.Phase.TheVariants.{Waiting, Open, Releasing, Stopped}

-- The reason for which a phase accepts no message, or none if it accepts messages.
abbrev pub stop_of : Phase → Option Reason
stop_of Waiting = None
stop_of Open = None
stop_of (Releasing why) = Some why
stop_of (Stopped why) = Some why

-- True if a phase accepts messages.
abbrev pub takes_messages : Phase → Bool
takes_messages phase = is_none (stop_of phase)

-- Holds if a phase accepts messages.
abbrev pub IsLive : Phase → Type 0
IsLive phase = stop_of phase ≡ None

-- True if a phase accepts no message.
abbrev pub is_over : Phase → Bool
is_over phase = is_some (stop_of phase)

-- True if a phase sends responses: the peer's first CSM was received, and the connection has not stopped.
abbrev pub answers : Phase → Bool
answers Waiting = false
answers Open = true
answers (Releasing why) = true
answers (Stopped why) = false

-- Holds if a phase sends responses.
abbrev pub IsAnswering : Phase → Type 0
IsAnswering phase = answers phase ≡ true

-- True before the peer's first CSM.
abbrev pub is_waiting : Phase → Bool
is_waiting Waiting = true
is_waiting Open = false
is_waiting (Releasing why) = false
is_waiting (Stopped why) = false

-- True after the peer's first CSM, until the connection stops or the peer releases it.
abbrev pub is_open : Phase → Bool
is_open Waiting = false
is_open Open = true
is_open (Releasing why) = false
is_open (Stopped why) = false
