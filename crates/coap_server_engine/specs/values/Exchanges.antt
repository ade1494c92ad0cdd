-- Defined by this project: what a server shows to its application, and what the application answers, in order.
use Rattle.std.specs.Prelude.{◌≡◌, ℕ, List, [], ◌∷◌, ◌++◌, Option, Some, None, Result}
use Rattle.std.specs.List.{AllByRecursion}
use Rattle.coap_wire.specs.Message.{Message}
use Rattle.coap_conn.specs.declared.phase.Reply.{Reply}
use Rattle.coap_model.specs.declared.answers.ResponseFault.{ResponseFault}

-- One exchange with the application:
-- - `Requested`: a request of a connection, and the response that the application wrote, or no byte. `limit` is the
--   size of the largest message that may be sent there.
-- - `Offered`: a later response, for a connection.
-- - `Given`: the result of that response.
-- - `Gone`: the end of a connection.
pub data Exchange : Type 0 where
  Requested : (id : ℕ) (request : Message) (limit : ℕ) (response : List ℕ) → Exchange
  Offered : (id : ℕ) (response : List ℕ) → Exchange
  Given : (id : ℕ) (outcome : Result Reply ResponseFault) → Exchange
  Gone : (id : ℕ) → Exchange

-- The exchange of a later response. There is none if no connection was named.
abbrev pub offers : Option ℕ → List ℕ → List Exchange
offers None response = []
offers (Some id) response = Offered id response ∷ []

-- The application wrote no byte in this exchange.
abbrev pub IsUnanswered : Exchange → Type 0
IsUnanswered (Requested id request limit response) = response ≡ []
IsUnanswered (Offered id response) = ⊥
IsUnanswered (Given id outcome) = Unit {0}
IsUnanswered (Gone id) = Unit {0}

abbrev pub AreUnanswered : List Exchange → Type 0
AreUnanswered exchanges = AllByRecursion IsUnanswered exchanges

-- A statement of an application on the exchanges so far.
abbrev pub Answering : Type 1
Answering = List Exchange → Type 0

-- After the exchanges that an application had before, it had these.
unfoldable pub AnswersMore : Answering → Answering → List Exchange → Type 0
AnswersMore before after more = (earlier : List Exchange) → before earlier → after (earlier ++ more)
