-- Defined by this project: the calls that accept the bytes of a connection and ask the application for responses. Other
-- calls take later responses from it.
use Rattle.std.specs.Prelude.{◌≡◌, ◌≤◌, ◌==◌, ℕ, suc, Bool, true, List, [], ◌∷◌, ◌++◌, take, drop, Option, Some, None}
use Rattle.std.specs.Prelude.{◌≢◌, is_none, min, Result, if◌then◌else◌, IfOk}
use Rattle.coap_wire.specs.Message.{Message}
use Rattle.coap_wire.specs.Reading.{message_of}
use Rattle.coap_wire.specs.Refusal.{RefusedBy}
use Rattle.coap_wire.specs.Spelling.{spelling}
use Rattle.coap_wire.specs.Codes.{internal_server_error}
use Rattle.coap_conn.specs.declared.phase.Reply.{Reply}
use Rattle.coap_model.specs.Configs.{ConfigValues}
use Rattle.coap_model.specs.declared.answers.ResponseFault.{ResponseFault}
use Rattle.coap_model.specs.declared.answers.TakeFault.TheVariants as taking
use Rattle.coap_model.specs.world.Events.{AcceptedCall, Took}
use Rattle.coap_server_session.specs.values.Sessions.{SessionValue}
use Rattle.coap_server_engine.specs.values.Servers.{ServerValue, session_of, count_taken, server_taken, server_given}
use Rattle.coap_server_engine.specs.values.ServerAnswers.{IsNotTaken, responded_refusal, IsReplyOn, response_event}
use Rattle.coap_server_engine.specs.values.InResults.{InResult, unfed, fed_more, goes_on, ShowsMore}
use Rattle.coap_server_engine.specs.values.HandedRequests.{handed_by}
use Rattle.coap_server_engine.specs.values.Exchanges.{Exchange, Requested, Offered, Given}

-- ---- a response of the application

-- The server after these bytes are given as a response. If the server does not accept them, nothing changes.
abbrev pub server_offered : ServerValue → ℕ → List ℕ → ServerValue
server_offered v id bytes = if is_none (responded_refusal v id bytes) then server_given v id bytes else v

-- The event of that response, if the server accepts it.
abbrev pub offered_events : ServerValue → ℕ → List ℕ → List AcceptedCall
offered_events v id bytes = if is_none (responded_refusal v id bytes) then response_event id (message_of bytes) else []

-- ---- a response at once

-- The message 5.00 (Internal Server Error) with this token.
abbrev pub failure_with : List ℕ → Message
failure_with token = record { code = internal_server_error; token = token; options = []; payload = [] }

-- The response that the server sends for one that the application wrote at once. It is 5.00 if the server does not
-- accept the one that was written. If the application wrote no byte, it is empty.
abbrev pub response_for : ServerValue → ℕ → List ℕ → List ℕ → List ℕ
response_for v id token [] = []
response_for v id token (b ∷ bytes) =
    if is_none (responded_refusal v id (b ∷ bytes)) then b ∷ bytes else spelling (failure_with token)

-- The effect of a request that the application may answer at once: the server after it, its event and its exchange.
pub record AskResult : Type 0 where
  pub server : ServerValue
  pub events : List AcceptedCall
  pub exchanges : List Exchange

-- RFC 8323 section 5.3.1: the size of the largest message that may be sent on a connection. It is the smaller of
-- `max_sent` and the peer's Max-Message-Size, and 0 without a connection.
abbrev pub limit_of : ServerValue → Option SessionValue → ℕ
limit_of v None = 0
limit_of v (Some s) = min v.config.limits.max_sent s.link.peer_max

-- The same for the connection with this id.
unfoldable pub message_limit : ServerValue → ℕ → ℕ
message_limit v id = limit_of v (session_of id v.sessions)

-- A buffer of this capacity has room for each response of an application: for a message of `max_sent` bytes. A server
-- without applications needs no room.
abbrev pub HasResponseRoom : ConfigValues → ℕ → Type 0
HasResponseRoom c capacity = c.applications ≢ None → c.limits.max_sent ≤ capacity

-- The exchange of a request, if there is one.
abbrev pub asks_for : (id limit : ℕ) → List ℕ → Option Message → List Exchange
asks_for id limit response None = []
asks_for id limit response (Some m) = Requested id m limit response ∷ []

-- The effect of a request, if there is one. The application wrote `response`.
abbrev pub asking : ServerValue → (id limit : ℕ) → List ℕ → Option Message → AskResult
asking v id limit response None = record { server = v; events = []; exchanges = [] }
asking v id limit response (Some m) = record {
  server = server_offered v id (response_for v id m.token response);
  events = offered_events v id (response_for v id m.token response);
  exchanges = asks_for id limit response (Some m);
}

-- ---- one take

-- The effect of the request that a take of `left` hands to the application.
abbrev pub ask_result : ServerValue → ℕ → List ℕ → List ℕ → AskResult
ask_result v id left response = asking (server_taken v id left) id (message_limit v id) response (handed_by v id left)

-- Holds for a take of `left` that accepted `count` bytes, and for the response that the application wrote if it was
-- asked.
pub record IsTakenFor (v : ServerValue) (id : ℕ) (left response : List ℕ) (count : ℕ) (after : ServerValue)
    (reported : List AcceptedCall → Type 0) (asks : List Exchange → Type 0) : Type 0 where
  pub server : after ≡ (ask_result v id left response).server
  pub shows : ShowsMore v after (Took id (take count left) ∷ (ask_result v id left response).events)
  pub reports : reported (Took id (take count left) ∷ (ask_result v id left response).events)
  pub exchanged : asks (ask_result v id left response).exchanges

-- Holds if allocation failed in a take of `left`.
pub record IsNotTakenFor (v : ServerValue) (id : ℕ) (left : List ℕ) (after : ServerValue)
    (reported : List AcceptedCall → Type 0) : Type 0 where
  pub count : ℕ
  pub refused : IsNotTaken v id left (taking.Memory count) after
  pub shows : ShowsMore v after (Took id (take count left) ∷ [])
  pub reports : reported (Took id (take count left) ∷ [])

-- ---- takes, until no byte is left or one accepts none

-- The server after some takes with their responses, the number of bytes accepted, the events and the exchanges.
pub record ServeResult : Type 0 where
  pub fed : InResult
  pub events : List AcceptedCall
  pub exchanges : List Exchange

-- The value before the first take.
abbrev pub unserved : ServerValue → ServeResult
unserved v = record { fed = unfed v; events = []; exchanges = [] }

-- The value after one more take, of the remaining bytes `left`. If it hands a request to the application, the
-- application wrote `response`.
abbrev pub served_more : ℕ → List ℕ → List ℕ → ServeResult → ServeResult
served_more id left response s = record {
  fed = record (fed_more id left s.fed) { server = (ask_result s.fed.server id left response).server };
  events =
      s.events
      ++ Took id (take (count_taken s.fed.server id left) left) ∷ (ask_result s.fed.server id left response).events;
  exchanges = s.exchanges ++ (ask_result s.fed.server id left response).exchanges;
}

-- The value after takes during which the application wrote these responses, the last one first: one for each take.
unfoldable pub served : ServerValue → ℕ → List ℕ → List (List ℕ) → ServeResult
served v id bytes [] = unserved v
served v id bytes (response ∷ responses) =
    served_more id (drop (served v id bytes responses).fed.count bytes) response (served v id bytes responses)

-- Holds if a number of takes were made, and each was to be made: bytes remained, and the one before accepted some.
abbrev pub AreMade : ServerValue → ℕ → List ℕ → List (List ℕ) → Type 0
AreMade v id bytes [] = Unit {0}
AreMade v id bytes (response ∷ responses) =
    (goes_on bytes (served v id bytes responses).fed ≡ true) × AreMade v id bytes responses

-- Holds if all bytes were offered, and `count` of them were accepted. `after` is the server then, `reported` holds of
-- the events and `asks` of the exchanges. If there is no connection, no take was made.
pub record IsServed (v : ServerValue) (id : ℕ) (bytes : List ℕ) (count : ℕ) (after : ServerValue)
    (reported : List AcceptedCall → Type 0) (asks : List Exchange → Type 0) : Type 0 where
  pub responses : List (List ℕ)
  pub made : AreMade v id bytes responses
  pub over : goes_on bytes (served v id bytes responses).fed ≡ true → session_of id v.sessions ≡ None
  pub nobody : session_of id v.sessions ≡ None → responses ≡ []
  pub counted : count ≡ (served v id bytes responses).fed.count
  pub server : after ≡ (served v id bytes responses).fed.server
  pub shows : ShowsMore v after (served v id bytes responses).events
  pub reports : reported (served v id bytes responses).events
  pub exchanged : asks (served v id bytes responses).exchanges

-- Holds if allocation failed in a take, after those before it. `after` is the server then. It shows the events of the
-- takes before it, and of the bytes which the failing take accepted.
pub record IsPartlyServed (v : ServerValue) (id : ℕ) (bytes : List ℕ) (after : ServerValue)
    (reported : List AcceptedCall → Type 0) (asks : List Exchange → Type 0) : Type 0 where
  pub responses : List (List ℕ)
  pub made : AreMade v id bytes responses
  pub going : goes_on bytes (served v id bytes responses).fed ≡ true
  pub count : ℕ
  pub refused : IsNotTaken (served v id bytes responses).fed.server id
      (drop (served v id bytes responses).fed.count bytes) (taking.Memory count) after
  pub shows : ShowsMore v after ((served v id bytes responses).events
      ++ Took id (take count (drop (served v id bytes responses).fed.count bytes)) ∷ [])
  pub reports : reported ((served v id bytes responses).events
      ++ Took id (take count (drop (served v id bytes responses).fed.count bytes)) ∷ [])
  pub exchanged : asks (served v id bytes responses).exchanges

-- ---- later responses

-- Holds if the application was asked for a later response for the connection `id`, and the server gave it, or did not
-- accept it.
pub record IsGivenLater (v : ServerValue) (id : ℕ) (after : ServerValue) (reported : List AcceptedCall → Type 0)
    (asks : List Exchange → Type 0) : Type 0 where
  pub bytes : List ℕ
  pub outcome : Result Reply ResponseFault
  pub refused : RefusedBy outcome (responded_refusal v id bytes)
  pub reply : IfOk outcome (λ r. IsReplyOn bytes r (session_of id v.sessions))
  pub server : after ≡ server_offered v id bytes
  pub shows : ShowsMore v after (offered_events v id bytes)
  pub reports : reported (offered_events v id bytes)
  pub exchanged : asks (Offered id bytes ∷ Given id outcome ∷ [])

-- The same by the connection that the application named. If it named none, nothing happened.
abbrev pub IsRequestedLater : ServerValue → Option ℕ → ServerValue → (List AcceptedCall → Type 0)
    → (List Exchange → Type 0) → Type 0
IsRequestedLater v None after reported asks = (after ≡ v) × (reported [] × asks [])
IsRequestedLater v (Some id) after reported asks = IsGivenLater v id after reported asks

-- Holds if the application gave this number of later responses, one after the other, with these events and exchanges.
-- The server is the last one then.
pub data AreGivenLater (v : ServerValue) : ℕ → ServerValue → List AcceptedCall → List Exchange → Type 0 where
  NothingGiven : AreGivenLater v 0 v [] []
  OneMoreGiven : (n : ℕ) (u : ServerValue) (events : List AcceptedCall) (exchanges : List Exchange) (id : ℕ)
      (bytes : List ℕ) (outcome : Result Reply ResponseFault) → AreGivenLater v n u events exchanges
      → RefusedBy outcome (responded_refusal u id bytes)
      → IfOk outcome (λ r. IsReplyOn bytes r (session_of id u.sessions))
      → AreGivenLater v (suc n) (server_offered u id bytes) (events ++ offered_events u id bytes)
      (exchanges ++ Offered id bytes ∷ Given id outcome ∷ [])

-- Holds if the application was asked for later responses until it had none (`more` is `false`), or until it had given
-- `most` of them.
pub record AreRequestedLater (v : ServerValue) (most : ℕ) (more : Bool) (after : ServerValue)
    (reported : List AcceptedCall → Type 0) (asks : List Exchange → Type 0) : Type 0 where
  pub number : ℕ
  pub events : List AcceptedCall
  pub exchanges : List Exchange
  pub given : AreGivenLater v number after events exchanges
  pub within : number ≤ most
  pub over : more ≡ (number == most)
  pub shows : ShowsMore v after events
  pub reports : reported events
  pub exchanged : asks exchanges
