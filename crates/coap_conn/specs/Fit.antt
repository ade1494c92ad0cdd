-- RFC 8323 section 5.3.1: a message fits if it does not exceed the peer's Max-Message-Size. Defined by this project:
-- the reduced message that replaces one that does not fit.
use Rattle.std.specs.Prelude.{ℕ, ◌≤◌, Bool, ◌||◌, List, [], ◌∷◌, length, Option, Some, None, nat_le, ◌==◌}
use Rattle.std.specs.Prelude.{if◌then◌else◌}
use Rattle.std.specs.List.{AllByRecursion}
use Rattle.coap_wire.specs.Message.{Message}
use Rattle.coap_wire.specs.Spelling.{spelling}
use Rattle.coap_wire.specs.Codes.{created, deleted, changed, internal_server_error}
use Rattle.coap_conn.specs.declared.phase.Reply.{Reply}
use Rattle.coap_conn.specs.declared.phase.Reply.TheVariants.{Whole, Bare, Stopped}

-- True if the encoding of the message has at most `limit` bytes.
abbrev pub fits : ℕ → Message → Bool
fits limit m = nat_le (length (spelling m)) limit

-- The result of sending `m`: whole if it fits, reduced to `less` if only that fits, or not at all.
abbrev pub fit : ℕ → Message → Message → Reply
fit limit m less = if fits limit m then Whole else (if fits limit less then Bare else Stopped)

-- The messages queued of `m` and `less`, by that result.
abbrev pub fitted : Message → Message → Reply → List Message
fitted m less Whole = m ∷ []
fitted m less Bare = less ∷ []
fitted m less Stopped = []

-- The code of a reduced response: 2.01, 2.02 and 2.04 stay, and any other code becomes 5.00.
abbrev pub bare_code : ℕ → ℕ
bare_code code = if code == created || code == deleted || code == changed then code else internal_server_error

-- The reduced form of a response, which has a code and the token alone.
abbrev pub bare_response : Message → Message
bare_response m = record { code = bare_code m.code; token = m.token; options = []; payload = [] }

-- The reduced form of a Pong.
abbrev pub without_options : Message → Message
without_options m = record m { options = [] }

-- The reduced form of an Abort.
abbrev pub without_payload : Message → Message
without_payload m = record m { payload = [] }

-- The messages queued of an Abort, if there is one: the whole Abort, its reduced form, or none.
abbrev pub abort_fitted : ℕ → Option Message → List Message
abort_fitted limit None = []
abort_fitted limit (Some m) = fitted m (without_payload m) (fit limit m (without_payload m))

-- Holds if the encoding of each message has at most `limit` bytes.
abbrev pub AllFit : ℕ → List Message → Type 0
AllFit limit ms = AllByRecursion (λ m. length (spelling m) ≤ limit) ms
