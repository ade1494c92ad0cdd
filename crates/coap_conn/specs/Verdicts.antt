-- Defined by this project: the value of a `Verdict`, with the token as a list of bytes.
use Rattle.std.specs.Prelude.{ℕ, Bool, true, false, List}
use Rattle.coap_conn.specs.declared.reason.Reason.{Reason}

pub data VerdictValue : Type 0 where
  Opened : VerdictValue
  Done : VerdictValue
  Request : VerdictValue
  Answer : (token : List ℕ) (last : Bool) → VerdictValue
  Pong : (token : List ℕ) (custody : Bool) → VerdictValue
  Stranger : VerdictValue
  Stopped : Reason → VerdictValue

-- True if the message is a request, to which the caller responds.
abbrev pub is_request : VerdictValue → Bool
is_request Opened = false
is_request Done = false
is_request Request = true
is_request (Answer token last) = false
is_request (Pong token custody) = false
is_request Stranger = false
is_request (Stopped why) = false
