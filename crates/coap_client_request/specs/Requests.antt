-- RFC 7252 section 6.4 and RFC 8323 section 8.1: the message of a request for a target. The extra option (`-O`) can
-- duplicate an option that is not repeatable, or add Proxy-Uri to a request with Uri-Host, Uri-Path and Uri-Query.
use Rattle.std.specs.Prelude.{ℕ, Bool, false, ◌||◌, List, [], ◌∷◌, ◌++◌, length, map, nat_lt, Option, Some, None}
use Rattle.std.specs.Prelude.{option_map, if◌then◌else◌}
use Rattle.coap_wire.specs.Message.{CoapOption, Message}
use Rattle.coap_wire.specs.Uint.{bytes_of_uint}
use Rattle.coap_wire.specs.Codes as codes
use Rattle.coap_wire.specs.OptionNumbers as numbers
use Rattle.coap_client_request.specs.Targets.{TargetValue}
use Rattle.coap_client_request.specs.declared.request.Method.{Method}
use Rattle.coap_client_request.specs.declared.request.Method.TheVariants.{Get, Put, Post, Delete}
use Rattle.coap_wire.specs.declared.sizes.TheConstants.{LARGEST_MESSAGE}

-- The properties of a request besides its method and its target. `observe` registers an observer, `plain` omits
-- Uri-Host, and `extra` is an extra option.
pub record ExtrasValue : Type 0 where
  pub observe : Bool
  pub plain : Bool
  pub content_format : Option ℕ
  pub accept : Option ℕ
  pub extra : Option CoapOption
  pub payload : List ℕ

-- The extras of a request that has none.
abbrev pub no_extras : ExtrasValue
no_extras = record {
  observe = false;
  plain = false;
  content_format = None;
  accept = None;
  extra = None;
  payload = [];
}

-- The code of a method (RFC 7252 section 5.8).
abbrev pub code_of_method : Method → ℕ
code_of_method Get = codes.get
code_of_method Put = codes.put
code_of_method Post = codes.post
code_of_method Delete = codes.delete

-- ---- the options

-- A list of one option with this number, or no option if there is no value.
abbrev pub option_with : ℕ → Option (List ℕ) → List CoapOption
option_with number None = []
option_with number (Some value) = record { number = number; value = value } ∷ []

-- One option for each value.
abbrev pub options_with : ℕ → List (List ℕ) → List CoapOption
options_with number values = map (λ v. record { number = number; value = v }) values

-- The shortest encoding of a number, if there is one (RFC 7252 section 3.2).
abbrev pub uint_sent : Option ℕ → Option (List ℕ)
uint_sent number = option_map bytes_of_uint number

-- The value of Uri-Host. The option is omitted if the host is an address (RFC 7252 section 6.4) or if the extras say
-- so.
unfoldable pub host_sent : TargetValue → ExtrasValue → Option (List ℕ)
host_sent t e = if e.plain || t.is_address then None else Some t.host

-- The value of Observe in a request: 0, which is encoded as no bytes, if the extras ask for it (RFC 7641 section 2).
unfoldable pub observe_sent : ExtrasValue → Option (List ℕ)
observe_sent e = if e.observe then Some [] else None

-- The value 1 of Observe, which cancels an observation (RFC 7641 section 3.6).
abbrev pub deregister : List ℕ
deregister = 1 ∷ []

-- Uri-Host, Observe, Uri-Path, Content-Format, Uri-Query and Accept, in the order of their numbers. Uri-Port is
-- omitted, because its default is the port of the connection (RFC 7252 section 5.10.1).
unfoldable pub own_options : TargetValue → ExtrasValue → Option (List ℕ) → List CoapOption
own_options t e observe =
    option_with numbers.uri_host (host_sent t e)
    ++ (option_with numbers.observe observe ++ (options_with numbers.uri_path t.segments
    ++ (option_with numbers.content_format (uint_sent e.content_format)
    ++ (options_with numbers.uri_query t.arguments ++ option_with numbers.accept (uint_sent e.accept)))))

-- The options with an extra one, after those with its number or a lower one.
unfoldable pub insert_option : CoapOption → List CoapOption → List CoapOption
insert_option extra [] = extra ∷ []
insert_option extra (o ∷ os) = if nat_lt extra.number o.number then extra ∷ o ∷ os else o ∷ insert_option extra os

-- The options with the extra one, if there is one.
unfoldable pub with_extra : Option CoapOption → List CoapOption → List CoapOption
with_extra None os = os
with_extra (Some extra) os = insert_option extra os

-- ---- the message

-- The request with this method, target and extras, without a token.
unfoldable pub request_of : Method → TargetValue → ExtrasValue → Message
request_of method t e = record {
  code = code_of_method method;
  token = [];
  options = with_extra e.extra (own_options t e (observe_sent e));
  payload = e.payload;
}

-- The GET that cancels the observation of a target (RFC 7641 section 3.6), without a token and without a payload.
unfoldable pub cancel_of : TargetValue → ExtrasValue → Message
cancel_of t e = record {
  code = codes.get;
  token = [];
  options = with_extra e.extra (own_options t e (Some deregister));
  payload = [];
}

-- ---- values that are too long to be sent

-- The maximum length of the extra option, in bytes.
abbrev pub greatest_extra : ℕ
greatest_extra = 1034

-- True if there is an extra option and its value is too long.
abbrev pub is_long_option : Option CoapOption → Bool
is_long_option None = false
is_long_option (Some o) = nat_lt greatest_extra (length o.value)

-- True if the extras have an extra option that is too long.
unfoldable pub has_long_extra : ExtrasValue → Bool
has_long_extra e = is_long_option e.extra

-- True if the extra option or the payload is too long.
unfoldable pub is_too_long : ExtrasValue → Bool
is_too_long e = has_long_extra e || nat_lt LARGEST_MESSAGE (length e.payload)
