-- RFC 8323 section 5.4.1: a Pong with Custody follows the responses to all requests before its Ping. This is stated of
-- all messages handled and queued on a connection.
use Rattle.std.specs.Prelude.{◌≡◌, ℕ, Bool, true, false, List, [], ◌∷◌, ◌++◌, map, filter, None}
use Rattle.coap_wire.specs.Message.{Message}
use Rattle.coap_conn.specs.PendingEntries.{Pong}
use Rattle.coap_conn.specs.Reaction.{is_asking, is_custody_pong}
use Rattle.coap_model.specs.world.LastNotification.{responds}
use Rattle.coap_model.specs.world.Custody.{CorrespondTo, asks_pong}

-- The messages have a response with this token. `before` and `rest` are the messages before and after it.
pub record HasResponse (token : List ℕ) (messages : List Message) : Type 0 where
  pub before : List Message
  pub response : Message
  pub rest : List Message
  pub there : messages ≡ before ++ response ∷ rest
  pub responds_to : responds token response ≡ true

-- The first condition if the flag is true, otherwise the second.
abbrev pub IfAsking : Bool → Type 0 → Type 0 → Type 0
IfAsking true answered others = answered
IfAsking false answered others = others

-- Each request in the first list has its own response in the second one. The first request has a response with its
-- token; the later ones have theirs among the other messages.
unfoldable pub HaveDistinctAnswers : List Message → List Message → Type 0
HaveDistinctAnswers [] messages = Unit {0}
HaveDistinctAnswers (m ∷ ms) messages =
    IfAsking (is_asking m)
    ((place : HasResponse m.token messages) × HaveDistinctAnswers ms (place.before ++ place.rest))
    (HaveDistinctAnswers ms messages)

-- A Ping that was handled asked for this Pong with Custody. `queued` are the messages queued before the Pong.
-- - `own`: the Pongs with Custody among them have their own Pings before that one, in the same order. So no two Pongs
--   share a Ping.
-- - `answered`: all requests handled before that Ping have their own responses among them.
pub record FollowsAnswers (handled : List Message) (pong : Message) (queued : List Message) : Type 0 where
  pub earlier : List Message
  pub ping : Message
  pub later : List Message
  pub there : handled ≡ earlier ++ ping ∷ later
  pub asks : asks_pong ping pong.token ≡ true
  pub own : CorrespondTo None earlier (map (λ m. Pong m.token) (filter is_custody_pong queued))
  pub answered : HaveDistinctAnswers earlier queued
