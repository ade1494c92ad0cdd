-- Defined by this project: the requests that the application answers, and the answer of the server to them.
use Rattle.std.specs.Prelude.{ℕ, Bool, not, ◌&&◌, ◌||◌, Option, Some, None, is_none, if◌then◌else◌}
use Rattle.coap_wire.specs.Message.{Message}
use Rattle.coap_wire.specs.Codes as code
use Rattle.coap_wire.specs.OptionNumbers as numbers
use Rattle.coap_wire.specs.Recognition.{first_critical}
use Rattle.coap_path.specs.Applications.{ApplicationsValue, is_answered}
use Rattle.coap_store.specs.Store.{StoreValue}
use Rattle.coap_store.specs.Requests.{has_option, path_of}
use Rattle.coap_store.specs.Answer.{Answer, says, only, immediate_answer}

-- The request passes the checks of every server. It has no unrecognised critical option (RFC 7252 section 5.4.1). It
-- asks for no proxying (RFC 7252 section 5.10.2).
abbrev pub passes_checks : Message → Bool
passes_checks m =
    is_none (first_critical m.options) && not (has_option numbers.proxy_uri m || has_option numbers.proxy_scheme m)

-- The number of seconds that the application has for a response to a request, or `None` if it does not answer it. It
-- answers the requests whose path and method its entries have, if they pass the checks of every server.
unfoldable pub application_deadline : Option ApplicationsValue → Message → Option ℕ
application_deadline None m = None
application_deadline (Some a) m =
    if is_answered a.entries (path_of m) m.code && passes_checks m then Some a.deadline else None

-- The answer `a`, or 5.03 if the application has a deadline.
abbrev pub unless_handed : Option ℕ → Answer → Answer
unless_handed None a = a
unless_handed (Some deadline) a = says (only code.service_unavailable)

-- The answer to a request at the time `now` that is sent at once. It is 5.03 if the response is to be delayed, or if
-- the application answers the request. Such a request is answered at once only if the pending list is full.
unfoldable pub prompt_answer : StoreValue → ℕ → Message → Answer
prompt_answer s now m = unless_handed (application_deadline s.applications m) (immediate_answer s now m)
