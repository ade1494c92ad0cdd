-- RFC 7252 section 5.10: a response as a message.
use Rattle.std.specs.Prelude.{ℕ, Bool, true, false, List, [], ◌∷◌, ◌++◌, map, Option, Some, None}
use Rattle.coap_wire.specs.Message.{CoapOption, Message}
use Rattle.coap_wire.specs.Uint.{bytes_of_uint}
use Rattle.coap_wire.specs.OptionNumbers as numbers
use Rattle.coap_store.specs.Answer.{Response}

-- The option with this number and value, if there is a value.
abbrev pub option_at : ℕ → Option (List ℕ) → List CoapOption
option_at number None = []
option_at number (Some value) = record { number = number; value = value } ∷ []

-- The option with this number and an integer as its value, if there is one.
abbrev pub number_at : ℕ → Option ℕ → List CoapOption
number_at number None = []
number_at number (Some n) = record { number = number; value = bytes_of_uint n } ∷ []

-- An option with this number for each value.
abbrev pub each_at : ℕ → List (List ℕ) → List CoapOption
each_at number values = map (λ v. record { number = number; value = v }) values

-- The option with this number and an empty value, if the flag is true.
abbrev pub empty_at : ℕ → Bool → List CoapOption
empty_at number false = []
empty_at number true = record { number = number; value = [] } ∷ []

-- The options of a response, in order: ETag, Observe if the response is a notification, Location-Path, Content-Format,
-- Max-Age and Size1. Observe is empty, since the stream keeps the order (RFC 8323 section 7.1).
abbrev pub options_with_observe : Bool → Response → List CoapOption
options_with_observe observe r =
    option_at numbers.etag r.etag ++ (empty_at numbers.observe observe
    ++ (each_at numbers.location_path r.location ++ (number_at numbers.content_format r.format
    ++ (number_at numbers.max_age r.max_age ++ number_at numbers.size1 r.size1))))

-- The response to a request with this token. With the flag, it is also a notification (RFC 7641 section 4.2).
abbrev pub response_with_observe : List ℕ → Bool → Response → Message
response_with_observe token observe r =
    record { code = r.code; token = token; options = options_with_observe observe r; payload = r.payload }

-- The response to a request with this token, which is no notification.
abbrev pub response_message : List ℕ → Response → Message
response_message token r = response_with_observe token false r
