-- RFC 7252 section 5.2 and RFC 7641 section 4.1: the response to a request, and the observer that a registration adds.
use Rattle.std.specs.Prelude.{◌≡◌, ℕ, Bool, true, ◌&&◌, List, ◌++◌, length, nat_lt, ◌==◌}
use Rattle.coap_wire.specs.Message.{Message}
use Rattle.coap_wire.specs.Codes.{class_of}
use Rattle.coap_wire.specs.OptionNumbers as numbers
use Rattle.coap_conn.specs.Fit.{fit, fitted, fits, bare_response}
use Rattle.coap_conn.specs.History.{limit_now}
use Rattle.coap_path.specs.ResourceKinds.{kind_of_path, is_observable}
use Rattle.coap_store.specs.Store.{StoreValue}
use Rattle.coap_store.specs.Requests.{path_of, number_of, is_get}
use Rattle.coap_store.specs.Answer.{Answer, Response, is_number}
use Rattle.coap_store.specs.ApplicationRequests.{prompt_answer}
use Rattle.coap_store.specs.Messages.{response_with_observe}
use Rattle.coap_model.specs.world.Observers.{without_token}
use Rattle.coap_model.specs.world.Connections.{Connection}

-- ---- the response

-- From s to t, one response is queued, reduced to fit the limit, and no other message. It has this token, and Observe
-- if `observe` is true.
abbrev pub QueuesResponse : List ℕ → Bool → Response → Connection → Connection → Type 0
QueuesResponse token observe r s t =
    let m = response_with_observe token observe r in
    t.history.queued ≡ s.history.queued ++ fitted m (bare_response m) (fit (limit_now s.history) m (bare_response m))

-- ---- registrations

-- A request with this answer registers an observer: it is a GET with Observe 0 of an observable resource, and the
-- response has class 2.
abbrev pub registers_by : Message → Answer → Bool
registers_by m a =
    (is_get m && is_number (number_of numbers.observe m) 0)
    && (is_observable (kind_of_path (path_of m)) && class_of a.response.code == 2)

-- The same by the answer of the store.
abbrev pub registers : StoreValue → ℕ → Message → Bool
registers store now m = registers_by m (prompt_answer store now m)

-- The request registers an observer, and the other observers are fewer than the limit.
abbrev pub may_register : StoreValue → ℕ → Connection → Message → Bool
may_register store now s m =
    registers store now m && nat_lt (length (without_token m.token s.observers)) s.history.limits.observers

-- The response with Observe to a registration.
abbrev pub registered_response : StoreValue → ℕ → Message → Message
registered_response store now m = response_with_observe m.token true (prompt_answer store now m).response

-- It fits the limit.
abbrev pub registration_fits : StoreValue → ℕ → Connection → Message → Bool
registration_fits store now s m = fits (limit_now s.history) (registered_response store now m)
