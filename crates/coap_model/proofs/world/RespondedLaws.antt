-- A response of the application: the request that it removes, the room that it needs, and the messages that it queues.
use Rattle.std.proofs.Common.{◌≡◌, ◌+◌, ◌≤◌, true, false, length, None, arith, nat_lt}
use Rattle.coap_model.specs.Prelude.{Message, Reply, fit, fitted, bare_response, has_request, without_request}
use Rattle.coap_model.specs.Prelude.{IsFirstRequest, is_plain_response, is_response, response_refusal, sent_length}
use Rattle.coap_model.specs.Prelude.{free_in, limit_in, LinkValue, bytes_of, ConnectionState, send_as}
use Rattle.std.proofs.lemmas.Bool.Decides.{nat_tests}
use Rattle.std.proofs.lemmas.Bool.{ltb-false}
use Rattle.std.proofs.lemmas.List.{length-append}
use Rattle.coap_conn.proofs.ApplicationLaws.{first_request}
use Rattle.coap_conn.proofs.ReactionLaws.{IsNoPong}
use Rattle.coap_model.proofs.world.AnswerCodes.{bare_coded}

-- ---- a response without an error

-- A request with its token is pending, it is a response without Observe, and there is room for it.
pub record IsAllowed (v : LinkValue) (m : Message) : Type 0 where
  pub requested : has_request m.token v.pending ≡ true
  pub plain : is_plain_response m ≡ true
  pub room : nat_lt (free_in v) (sent_length (limit_in v) m) ≡ false

pub allowed : (v : LinkValue) (m : Message) → response_refusal v m ≡ None → IsAllowed v m
unfolding response_refusal
allowed v m none = grind arith

-- The request is the first with the token that waits for the application.
pub answered_request : (v : LinkValue) (m : Message) → response_refusal v m ≡ None
    → IsFirstRequest v.pending m.token (without_request m.token v.pending)
answered_request v m none = first_request v.pending m.token (allowed v m none).requested

-- One entry fewer is pending.
pub request_fewer : (v : LinkValue) (m : Message) → response_refusal v m ≡ None
    → length (without_request m.token v.pending) + 1 ≡ length v.pending
request_fewer v m none = grind (arith, answered_request v m none, length-append)

-- ---- the messages queued

pub sent_is : (s : ConnectionState) (m less : Message) (r : Reply) → (send_as s m less r).queued ≡ fitted m less r
sent_is s m less r = grind arith

-- They need no more than the free space.
pub responded_small : (v : LinkValue) (m : Message) → response_refusal v m ≡ None
    → length (bytes_of (fitted m (bare_response m) (fit (limit_in v) m (bare_response m)))) ≤ free_in v
responded_small v m none = ltb-false (free_in v) (sent_length (limit_in v) m) (allowed v m none).room

-- ---- the response is one, and no Pong

pub plain_codes : (m : Message) → is_plain_response m ≡ true
    → (is_response m ≡ true) × (is_response (bare_response m) ≡ true)
plain_codes m plain = grind (arith, bare_coded m.code)

-- A Pong is no response.
pub response_is_no_pong : (m : Message) → is_response m ≡ true → IsNoPong m
response_is_no_pong m is = grind (arith, nat_tests)
