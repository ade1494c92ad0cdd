-- RFC 7252 section 5.9.1 and RFC 7641 section 4.2: the state that an observer was sent last, by all messages ever
-- queued on its connection.
use Rattle.std.specs.Prelude.{◌≡◌, ◌≢◌, ◌⊎◌, ℕ, Bool, true, ◌&&◌, ◌||◌, List, [], ◌∷◌, reverse, find, Option, Some}
use Rattle.std.specs.Prelude.{None, is_some}
use Rattle.std.specs.List.{AllByRecursion, list_any}
use Rattle.coap_wire.specs.Message.{Message}
use Rattle.coap_wire.specs.Codes as code
use Rattle.coap_wire.specs.OptionNumbers as numbers
use Rattle.coap_conn.specs.Reaction.{is_asking, is_response}
use Rattle.coap_path.specs.Paths.{same_bytes}
use Rattle.coap_store.specs.Store.{Representation}
use Rattle.coap_path.specs.ResourceKinds.{kind_of_path, is_dynamic}
use Rattle.coap_store.specs.Requests.{etag_of, is_get, number_of, path_of, values_of}
use Rattle.coap_path.specs.Applications.{ApplicationsValue}
use Rattle.coap_store.specs.Answer.{Response, only, content, is_among, is_delayed}
use Rattle.coap_store.specs.ApplicationRequests.{application_deadline}
use Rattle.coap_store.specs.Messages.{response_with_observe}
use Rattle.coap_model.specs.world.Observers.{Observer}

-- ---- responses

-- The message is a response with this token.
abbrev pub responds : List ℕ → Message → Bool
responds token m = is_response m && same_bytes m.token token

-- The last response with this token in a list of messages, if there is one.
unfoldable pub last_response : List ℕ → List Message → Option Message
last_response token messages = find (responds token) (reverse messages)

-- ---- registrations (RFC 7641 section 4.1)

-- The message is a request with this token.
abbrev pub asks_with : List ℕ → Message → Bool
asks_with token m = is_asking m && same_bytes m.token token

-- The last request with this token in a list of messages, if there is one.
unfoldable pub last_request : List ℕ → List Message → Option Message
last_request token messages = find (asks_with token) (reverse messages)

-- The last request with the observer's token among the messages handled is its registration: a GET of its path with
-- Observe 0.
pub record IsRegistered (handled : List Message) (o : Observer) : Type 0 where
  pub request : Message
  pub last : last_request o.token handled ≡ Some request
  pub get : is_get request ≡ true
  pub observe : number_of numbers.observe request ≡ Some 0
  pub path : path_of request ≡ o.path

-- ---- messages that report a state

-- The 2.05 of a state, with Observe and the bytes of the state. It has the format if there is one, the ETag if the
-- state is stored, and Max-Age if the path is `/time`.
abbrev pub state_message : Observer → Representation → Message
state_message o r = response_with_observe o.token true (content (kind_of_path o.path) r)

-- The 2.03 with the ETag of a state and nothing else.
abbrev pub etag_of_state : Representation → Response
etag_of_state r = record (only code.valid) { etag = Some (etag_of r) }

-- The same as a message to the observer, with Observe.
abbrev pub etag_message : Observer → Representation → Message
etag_message o r = response_with_observe o.token true (etag_of_state r)

-- The last request with the observer's token has the ETag of a state among its ETag options.
abbrev pub NamesEtag : List Message → Observer → Representation → Type 0
NamesEtag handled o r =
    (m : Message) × (last_request o.token handled ≡ Some m)
    × (is_among (Some (etag_of r)) (values_of numbers.etag m) ≡ true)

-- The message reports this state to the observer: as 2.05; or as 2.03, if the state is stored and the registration
-- names its ETag. The list has the messages handled. No message reports an absent path.
abbrev pub ReportsState : List Message → Observer → Option Representation → Message → Type 0
ReportsState handled o None m = ⊥
ReportsState handled o (Some r) m =
    (m ≡ state_message o r)
    ⊎ ((m ≡ etag_message o r) × (is_dynamic (kind_of_path o.path) ≡ true) × NamesEtag handled o r)

-- The response to this request is delayed, by the engine or by the application.
abbrev pub asks_late : Option ApplicationsValue → Message → Bool
asks_late a m = is_delayed m || is_some (application_deadline a m)

-- One of these messages is such a request with this token.
abbrev pub requested_late : Option ApplicationsValue → List ℕ → List Message → Bool
requested_late a token messages = list_any (λ m. asks_late a m && same_bytes m.token token) messages

-- The last response with the observer's token reports the state that the observer's entry records. The arguments are
-- the messages handled and queued.
abbrev pub IsLastNotification : List Message → List Message → Observer → Type 0
IsLastNotification handled queued o =
    (m : Message) × (last_response o.token queued ≡ Some m) × ReportsState handled o o.reported m

-- No two observers have the same token.
abbrev pub TokensAreDistinct : List Observer → Type 0
TokensAreDistinct [] = Unit {0}
TokensAreDistinct (o ∷ os) = AllByRecursion (λ other. o.token ≢ other.token) os × TokensAreDistinct os
