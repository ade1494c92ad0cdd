-- Defined by this project: kinds of calls that theorems distinguish.
use Rattle.std.specs.Prelude.{Bool, true, false}
use Rattle.coap_conn.specs.Calls.{Call, Reply, Respond, Due, Written, Request, Ping, Announce}

-- True if a call has no effect when no message is accepted: any call but `Reply`,
-- `Respond`, `Due` and `Written`.
abbrev pub needs_live : Call → Bool
needs_live (Reply m) = false
needs_live (Respond m) = false
needs_live (Due now) = false
needs_live (Written n) = false
needs_live other = true

-- True if a call takes a new token.
abbrev pub gives_token : Call → Bool
gives_token (Request m observe) = true
gives_token (Ping custody) = true
gives_token other = false

-- True if a call announces the size of the largest message that is accepted.
abbrev pub announces : Call → Bool
announces (Announce size) = true
announces other = false
