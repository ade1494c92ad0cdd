-- Defined by this project: the recognised options of a request, collected one after the other.
use Rattle.std.specs.Prelude.{◌≡◌, ℕ, Bool, true, false, ◌||◌, List, [], ◌∷◌, Option, Some, None, ◌==◌, if◌then◌else◌}
use Rattle.std.specs.Prelude.{option_copied}
use Rattle.coap_wire.specs.Message.{CoapOption, Message}
use Rattle.coap_wire.specs.OptionNumbers as numbers
use Rattle.coap_path.specs.ResourceKinds.{kind_of_path}
use Rattle.coap_path.specs.PathMatches.{match_with, place_at}
use Rattle.coap_store.specs.Requests.{value_of, has_option, path_of}
use Rattle.coap_path.specs.declared.path_match.PathMatch.{PathMatch}
use Rattle.coap_path.specs.declared.path_match.PathMatch.TheVariants.{Root}
use Rattle.coap_store.specs.declared.request_options.RequestOptions as kept

-- The options of a request: which are present, the first value of those whose value matters, and the state of matching
-- the path.
pub record RequestOptions : Type 0 where
  pub matched : PathMatch
  pub if_match : Bool
  pub etag : Bool
  pub if_none_match : Bool
  pub proxy_uri : Bool
  pub proxy_scheme : Bool
  pub observe : Option (List ℕ)
  pub content_format : Option (List ℕ)
  pub query : Option (List ℕ)
  pub accept : Option (List ℕ)

-- The state before the first option.
abbrev pub nothing : RequestOptions
nothing = record {
  matched = Root;
  if_match = false;
  etag = false;
  if_none_match = false;
  proxy_uri = false;
  proxy_scheme = false;
  observe = None;
  content_format = None;
  query = None;
  accept = None;
}

-- The first value of an option. Later values do not replace it.
abbrev pub first_given : Option (List ℕ) → Bool → List ℕ → Option (List ℕ)
first_given (Some first) here value = Some first
first_given None true value = Some value
first_given None false value = None

-- The path match after an option: advanced by its segment if there is one, otherwise unchanged.
abbrev pub match_after : PathMatch → Bool → List ℕ → PathMatch
match_after matched here segment = if here then match_with matched segment else matched

-- The state after another option.
unfoldable pub options_after : RequestOptions → CoapOption → RequestOptions
options_after n o = record {
  matched = match_after n.matched (o.number == numbers.uri_path) o.value;
  if_match = n.if_match || o.number == numbers.if_match;
  etag = n.etag || o.number == numbers.etag;
  if_none_match = n.if_none_match || o.number == numbers.if_none_match;
  proxy_uri = n.proxy_uri || o.number == numbers.proxy_uri;
  proxy_scheme = n.proxy_scheme || o.number == numbers.proxy_scheme;
  observe = first_given n.observe (o.number == numbers.observe) o.value;
  content_format = first_given n.content_format (o.number == numbers.content_format) o.value;
  query = first_given n.query (o.number == numbers.uri_query) o.value;
  accept = first_given n.accept (o.number == numbers.accept) o.value;
}

-- The state after these options, one after the other.
abbrev pub all_noted : RequestOptions → List CoapOption → RequestOptions
all_noted n [] = n
all_noted n (o ∷ os) = all_noted (options_after n o) os

-- The collected options are those of the request.
pub record AreOptionsOf (m : Message) (n : RequestOptions) : Type 0 where
  pub place : place_at n.matched ≡ kind_of_path (path_of m)
  pub if_match : n.if_match ≡ has_option numbers.if_match m
  pub etag : n.etag ≡ has_option numbers.etag m
  pub if_none_match : n.if_none_match ≡ has_option numbers.if_none_match m
  pub proxy_uri : n.proxy_uri ≡ has_option numbers.proxy_uri m
  pub proxy_scheme : n.proxy_scheme ≡ has_option numbers.proxy_scheme m
  pub observe : n.observe ≡ value_of numbers.observe m
  pub content_format : n.content_format ≡ value_of numbers.content_format m
  pub query : n.query ≡ value_of numbers.uri_query m
  pub accept : n.accept ≡ value_of numbers.accept m

-- The model value of the type `RequestOptions`.
abbrev pub options_value : kept.RequestOptions → RequestOptions
options_value n = record {
  matched = n.matched;
  if_match = n.has_if_match;
  etag = n.has_etag;
  if_none_match = n.has_if_none_match;
  proxy_uri = n.has_proxy_uri;
  proxy_scheme = n.has_proxy_scheme;
  observe = option_copied n.observe;
  content_format = option_copied n.content_format;
  query = option_copied n.query;
  accept = option_copied n.accept;
}
