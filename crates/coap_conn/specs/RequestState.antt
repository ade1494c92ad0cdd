-- RFC 7252 sections 5.3.1 and 5.3.2, RFC 7641 section 3.6, RFC 8323 sections 5.3.1 and 5.4: how requests, cancellations
-- and Pings are sent. Defined by this project: the errors with which sending them fails.
use Rattle.std.specs.Prelude.{ℕ, ◌+◌, Bool, true, false, List, [], Option, Some, None, length, nat_lt, if◌then◌else◌}
use Rattle.std.specs.List.{list_any}
use Rattle.coap_wire.specs.Message.{Message}
use Rattle.coap_wire.specs.Spelling.{spelling}
use Rattle.coap_wire.specs.Uint.{bytes_of_uint}
use Rattle.coap_wire.specs.Codes as code
use Rattle.coap_conn.specs.Phases.{is_open}
use Rattle.coap_conn.specs.Outstanding.{OutstandingValue, Request, Observation, may_cancel}
use Rattle.coap_conn.specs.Reaction.{custody_options}
use Rattle.coap_conn.specs.declared.phase.Phase.{Phase}
use Rattle.coap_conn.specs.declared.phase.RequestFault.{RequestFault}
use Rattle.coap_conn.specs.declared.phase.RequestFault.TheVariants.{NotOpen, TooMany, TooBig, NoRoom, TokensSpent}
use Rattle.coap_conn.specs.declared.phase.RequestFault.TheVariants.{NoSuchToken}

-- The state that decides whether a request may be sent. `most` is the limit of outstanding entries, and `tokens` the
-- number of the last token. `limit` is the size of the largest message that may be sent, and `free` the free bytes of
-- the queue.
pub record RequestState : Type 0 where
  pub phase : Phase
  pub outstanding : List OutstandingValue
  pub most : ℕ
  pub tokens : ℕ
  pub limit : ℕ
  pub free : ℕ

-- ---- messages

-- The token of the number after `tokens`, in the fewest bytes.
abbrev pub next_token : ℕ → List ℕ
next_token tokens = bytes_of_uint (tokens + 1)

-- The message with another token.
abbrev pub with_token : Message → List ℕ → Message
with_token m token = record m { token = token }

-- A Ping with this token, with Custody or without (RFC 8323 section 5.4).
abbrev pub ping_with : Bool → List ℕ → Message
ping_with custody token = record { code = code.ping; token = token; options = custody_options custody; payload = [] }

-- The outstanding entry of a request with this token: an observation if the first argument is true.
abbrev pub entry_of : Bool → List ℕ → OutstandingValue
entry_of true token = Observation token false
entry_of false token = Request token

-- ---- errors

-- The error for a message of this size: it exceeds the largest message that may be sent, or the free bytes of the
-- queue.
abbrev pub size_refusal : RequestState → ℕ → Option RequestFault
size_refusal a size = if nat_lt a.limit size then Some TooBig else (if nat_lt a.free size then Some NoRoom else None)

-- The error if no new token can be given: the number of outstanding entries has reached its limit, or all tokens are
-- used.
abbrev pub token_refusal : RequestState → Option RequestFault
token_refusal a =
    if nat_lt (length a.outstanding) a.most
    then (if nat_lt a.tokens 18446744073709551615 then None else Some TokensSpent)
    else Some TooMany

-- The first error if there is one, otherwise the second.
abbrev pub else_refusal : Option RequestFault → Option RequestFault → Option RequestFault
else_refusal None other = other
else_refusal (Some fault) other = Some fault

-- The error with which every request and Ping fails, whatever its size.
unfoldable pub new_refusal : RequestState → Option RequestFault
new_refusal a = if is_open a.phase then token_refusal a else Some NotOpen

-- The error with which a message with a new token fails. Either the connection is not open, or no token can be given,
-- or the message is too large.
unfoldable pub asking_refusal : RequestState → Message → Option RequestFault
asking_refusal a m = else_refusal (new_refusal a) (size_refusal a (length (spelling m)))

-- True if an observation with this token is outstanding and was not cancelled.
abbrev pub has_observation : RequestState → List ℕ → Bool
has_observation a token = list_any (may_cancel token) a.outstanding

-- The error with which every cancellation of the observation with this token fails, whatever the message.
unfoldable pub observation_refusal : RequestState → List ℕ → Option RequestFault
observation_refusal a token =
    if is_open a.phase then (if has_observation a token then None else Some NoSuchToken) else Some NotOpen

-- The error with which a cancellation fails. Either the connection is not open, or there is no observation with this
-- token to cancel, or the message is too large.
unfoldable pub cancel_refusal : RequestState → List ℕ → Message → Option RequestFault
cancel_refusal a token m =
    if is_open a.phase
    then (if has_observation a token then size_refusal a (length (spelling m)) else Some NoSuchToken)
    else Some NotOpen
