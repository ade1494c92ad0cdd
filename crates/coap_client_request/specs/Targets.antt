-- RFC 8323 section 8.1 and RFC 7252 section 6.4: the target of a URI of the scheme `coap+tcp`.
use Rattle.std.specs.Prelude.{◌≡◌, ◌⊎◌, ℕ, Bool, true, not, ◌||◌, ◌==◌, List, [], length, map, drop, nat_lt, nat_le}
use Rattle.std.specs.Prelude.{codes, bytes_eq, Option, Some, None, is_some, unwrap_or, Result, Ok, Err, if◌then◌else◌}
use Rattle.std.specs.List.{list_any, slice_split}
use Rattle.std.specs.Net.Addr.{ipv4_octets, ipv6_segments}
use Rattle.std.specs.Net.Reader.{whole_value, read_ipv4}
use Rattle.std.specs.Net.Text.{ipv4_text, hex_groups_text}
use Rattle.percent_encoding.specs.Percent.{percent_decode}
use Rattle.url.specs.Input.{lowercase}
use Rattle.url.specs.Parser.{Parsed, IsOutOfRoom, parse_url}
use Rattle.url.specs.declared.error.ParseError.{ParseError}
use Rattle.url.specs.Parts.{Parts, has_host, has_credentials, host_or_empty}
use Rattle.url.specs.declared.host.Host.{Host}
use Rattle.url.specs.declared.host.Host.TheVariants.{Domain, Ipv4, Ipv6}
use Rattle.coap_client_request.specs.declared.target.TargetFault.{TargetFault}
use Rattle.coap_client_request.specs.declared.target.TargetFault.TheVariants as fault

-- The target of a request. The host is as used to connect and in Uri-Host, and the parts of the path and the query are
-- percent-decoded.
pub record TargetValue : Type 0 where
  pub host : List ℕ
  pub is_address : Bool
  pub port : ℕ
  pub segments : List (List ℕ)
  pub arguments : List (List ℕ)

-- ---- the host

-- True if a text is four decimal numbers up to 255, without leading zeros, separated by dots. The standard library
-- parses this form as an IPv4 address.
abbrev pub is_dotted : List ℕ → Bool
is_dotted text = is_some (whole_value (read_ipv4 text))

-- True if a host is an address: in brackets, or four decimal numbers separated by dots. This is decided before escapes
-- are decoded.
unfoldable pub names_address : Host (List ℕ) → Bool
names_address (Domain text) = is_dotted text
names_address (Ipv4 address) = true
names_address (Ipv6 address) = true

-- A host without brackets: an address as it is written, and a name decoded and with its ASCII letters in lower case.
unfoldable pub domain_named : List ℕ → List ℕ
domain_named text = if is_dotted text then text else lowercase (percent_decode text)

-- The host as used to connect and in Uri-Host. An IPv6 address has no brackets.
unfoldable pub host_named : Host (List ℕ) → List ℕ
host_named (Domain text) = domain_named text
host_named (Ipv4 address) = ipv4_text (ipv4_octets address)
host_named (Ipv6 address) = hex_groups_text (ipv6_segments address)

-- The default port of the scheme `coap+tcp` (RFC 8323 section 8.1).
abbrev pub default_port : ℕ
default_port = 5683

-- ---- the path and the query

abbrev pub slash : ℕ
slash = 47

abbrev pub ampersand : ℕ
ampersand = 38

-- The parts between separators, each percent-decoded. There is one part more than there are separators.
unfoldable pub decoded_parts : ℕ → List ℕ → List (List ℕ)
decoded_parts separator bytes = map percent_decode (slice_split (λ b. b == separator) bytes)

-- The segments after the first slash. An empty path and a lone slash have none.
unfoldable pub segments_named : List ℕ → List (List ℕ)
segments_named path = if nat_le (length path) 1 then [] else decoded_parts slash (drop 1 path)

-- The arguments of a query. No query has no argument, and an empty query has one empty argument.
unfoldable pub arguments_named : Option (List ℕ) → List (List ℕ)
arguments_named None = []
arguments_named (Some query) = decoded_parts ampersand query

-- The decoded parts of a parsed URI.
unfoldable pub value_named : Parts → TargetValue
value_named url = record {
  host = host_named (host_or_empty url);
  is_address = names_address (host_or_empty url);
  port = unwrap_or url.port default_port;
  segments = segments_named url.path;
  arguments = arguments_named url.query;
}

-- ---- refusals

-- True if a part is longer than Uri-Host, Uri-Path and Uri-Query can be: more than 255 bytes (RFC 7252 section 5.10).
abbrev pub is_long : List ℕ → Bool
is_long part = nat_lt 255 (length part)

abbrev pub has_long_part : TargetValue → Bool
has_long_part t = is_long t.host || list_any is_long t.segments || list_any is_long t.arguments

-- True if there are more than 16 segments or more than 16 arguments.
abbrev pub has_many_parts : TargetValue → Bool
has_many_parts t = nat_lt 16 (length t.segments) || nat_lt 16 (length t.arguments)

-- The error of a parsed URI that can be found before its parts are decoded.
unfoldable pub form_refusal : Parts → Option TargetFault
form_refusal url =
    if not (bytes_eq url.scheme (codes "coap+tcp")) then Some fault.Scheme
    else (if not (has_host url) then Some fault.NoHost
    else (if has_credentials url then Some fault.UserInfo
    else (if is_some url.fragment then Some fault.Fragment
    else None)))

-- The error of decoded parts that are too long or too many.
unfoldable pub size_refusal : TargetValue → Option TargetFault
size_refusal t =
    if has_long_part t then Some fault.PartTooLong
    else (if has_many_parts t then Some fault.TooManyParts
    else None)

-- The result `given`, unless there is an error.
abbrev pub unless : {T : Type 0} → Option TargetFault → Result T TargetFault → Result T TargetFault
unless None given = given
unless (Some why) given = Err why

-- The target of a parsed URI, or the first error that applies.
unfoldable pub target_in : Parts → Result TargetValue TargetFault
target_in url = unless (form_refusal url) (unless (size_refusal (value_named url)) (Ok (value_named url)))

-- The target for the result of the crate `url`.
abbrev pub target_parsed : Parsed Parts → Result TargetValue TargetFault
target_parsed (Ok url) = target_in url
target_parsed (Err why) = Err fault.Url

-- The target of a text, or the first error that applies.
abbrev pub target_of : List ℕ → Result TargetValue TargetFault
target_of text = target_parsed (parse_url None text)

-- Says that a result is the expected one, or the error `Memory`.
abbrev pub GivesUnlessMemory : {T : Type 0} → Result T TargetFault → Result T TargetFault → Type 0
GivesUnlessMemory (Ok given) expected = expected ≡ Ok given
GivesUnlessMemory (Err why) expected = (why ≡ fault.Memory) ⊎ (expected ≡ Err why)

-- Says which error follows from an error of the crate `url`: `Memory` if it had no room, and otherwise `Url`.
abbrev pub MeansUnlessRoom : ParseError → TargetFault → Type 0
MeansUnlessRoom refusal why =
    ((why ≡ fault.Memory) × IsOutOfRoom refusal) ⊎ ((why ≡ fault.Url) × ¬ (IsOutOfRoom refusal))
