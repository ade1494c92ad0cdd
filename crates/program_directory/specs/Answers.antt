-- Defined by this project: the responses of a directory to the requests that its server hands over.
use Rattle.std.specs.Prelude.{◌≡◌, ℕ, ◌+◌, ◌-◌, min, List, [], ◌∷◌, ◌++◌, length, Option, None, Result, if◌then◌else◌}
use Rattle.coap_wire.specs.Message.{Message}
use Rattle.coap_wire.specs.Spelling.{spelling}
use Rattle.coap_conn.specs.declared.phase.Reply.{Reply as Queued}
use Rattle.coap_model.specs.declared.answers.ResponseFault.{ResponseFault}
use Rattle.coap_server_engine.specs.values.Exchanges.{Exchange, Requested, Given, Gone}
use Rattle.directory_core.specs.Replies.{DirectoryValue, new_directory, at_time, allocates, replying, Replies}
use Rattle.directory_core.specs.Responses.{message_of, fits}
use Rattle.directory_core.specs.declared.reply.Reply.{Reply}
use Rattle.directory_core.specs.declared.reply.Reply.TheVariants.{OutOfMemory}

-- The time of a directory when its clock returns `moment`, in seconds: at most 2^63 - 1.
abbrev pub time_at : ℕ → ℕ
time_at moment = min moment 9223372036854775807

-- The maximum size of a lookup's results for a response of `limit` bytes. The head without the token, Content-Format
-- and the marker have at most 11 bytes.
abbrev pub results_within : (limit : ℕ) → (token : List ℕ) → ℕ
results_within limit token = limit - (11 + length token)

-- The encoding of the first of these messages for which there is room, or no byte.
abbrev pub written_in : (room : ℕ) → (message other : Message) → List ℕ
written_in room message other =
    if fits room message then spelling message else (if fits room other then spelling other else [])

-- The response with this reply, where `content` is the result of the last lookup. It is 5.00 if there is no room for
-- the message of the reply.
abbrev pub response_of : (room : ℕ) → (token : List ℕ) → (content : Option (List ℕ)) → Reply → List ℕ
response_of room token content reply =
    written_in room (message_of token content reply) (message_of token None OutOfMemory)

-- The directory `before` gives this response to a request, and is `after` then. `replying` defines the reply and
-- `after`, for the time of one reading of the clock. `reads` states the readings that were made. The buffer has room
-- for `room` bytes.
pub record IsAnswered (reads : List ℕ → Type 0) (before : DirectoryValue) (limit room : ℕ) (request : Message)
    (token response : List ℕ) (after : DirectoryValue) : Type 0 where
  pub moment : ℕ
  pub read : reads (moment ∷ [])
  pub reply : Reply
  pub replies : Replies (allocates before (time_at moment) request) (at_time before (time_at moment)) reply after
      (replying before (time_at moment) (results_within limit token) request)
  pub written : response ≡ response_of room token after.listing.text reply

-- A directory that was new has this value after these exchanges with its server. Each request was answered at once, at
-- the time of some reading of the clock, into a buffer with some room.
pub data Answers : List Exchange → DirectoryValue → Type 0 where
  NoRequests : (limit capacity : ℕ) → Answers [] (new_directory limit capacity)
  OneAnswered : (exchanges : List Exchange) (before after : DirectoryValue) (id limit room : ℕ) (request : Message)
      (response : List ℕ) → Answers exchanges before
      → IsAnswered (λ moments. Unit {0}) before limit room request request.token response after
      → Answers (exchanges ++ Requested id request limit response ∷ []) after
  ResultGiven : (exchanges : List Exchange) (d : DirectoryValue) (id : ℕ) (outcome : Result Queued ResponseFault)
      → Answers exchanges d → Answers (exchanges ++ Given id outcome ∷ []) d
  ConnectionGone : (exchanges : List Exchange) (d : DirectoryValue) (id : ℕ)
      → Answers exchanges d → Answers (exchanges ++ Gone id ∷ []) d
