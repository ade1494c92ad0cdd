-- RFC 9176 section 5: the registrations after a request.
use Rattle.std.specs.Str.{is_utf8}
use Rattle.std.specs.Prelude.{ℕ, ◌+◌, Bool, ◌&&◌, ◌||◌, List, [], ◌∷◌, ◌++◌, length, nat_le, codes, Option, Some, None}
use Rattle.std.specs.Prelude.{is_none, option_map, Result, Ok, Err, ◌==◌, if◌then◌else◌}
use Rattle.std.specs.List.{list_all, fold}
use Rattle.coap_wire.specs.Message.{CoapOption, Message}
use Rattle.directory_links.specs.Links.{Attribute, Link}
use Rattle.directory_links.specs.Reading.{links_from}
use Rattle.directory_registry.specs.Registrations.{RegistrationValue, RegistryValue, place_of, registered, attributed}
use Rattle.directory_registry.specs.Registrations.{updated, has_location, found_at, registrations}
use Rattle.directory_registry.specs.Matching.{CriterionValue}
use Rattle.directory_registry.specs.Lookups.{PageValue, ListingValue, started, offered_links, offered_endpoint}
use Rattle.directory_core.specs.Requests.{named, is_repeated, repeats_parameter, lifetime_in, criteria_from}
use Rattle.directory_core.specs.Requests.{page_in}
use Rattle.directory_core.specs.Parameters.{key_in, is_base, is_limited, is_well_formed, has_allowed_name, given}
use Rattle.directory_core.specs.Parameters.{merged, endpoint_type}
use Rattle.directory_core.specs.Conditions.{has_link_format, accepts_link_format}
use Rattle.directory_core.specs.declared.refusal.Refusal.{Refusal}
use Rattle.directory_core.specs.declared.refusal.Refusal.TheVariants as refusal

-- The result of `f` for the value on the left, or the refusal on the left.
infixl 10 ◌>>=◌
abbrev pub ◌>>=◌ : {A B : Type 0} → Result A Refusal → (A → Result B Refusal) → Result B Refusal
(Ok x) >>= f = f x
(Err e) >>= f = Err e

-- The value, or this refusal.
abbrev pub or_refused : {A : Type 0} → Refusal → Option A → Result A Refusal
or_refused e None = Err e
or_refused e (Some x) = Ok x

-- The value, or this refusal in place of the error.
abbrev pub refused : {A E : Type 0} → Refusal → Result A E → Result A Refusal
refused e (Ok x) = Ok x
refused e (Err d) = Err e

-- The same value if the test holds, or else this refusal.
abbrev pub only_if : {A : Type 0} → Bool → Refusal → A → Result A Refusal
only_if test e x = if test then Ok x else Err e

-- The key of an endpoint with these parameters `d` and `ep`.
abbrev pub key_with : Option (List ℕ) → Option (List ℕ) → Option (List ℕ)
key_with d None = None
key_with None (Some ep) = key_in [] ep
key_with (Some d) (Some ep) = key_in d ep

-- The base URI with this parameter, if it is of a scheme and an authority.
abbrev pub base_with : Option (List ℕ) → Option (List ℕ)
base_with None = None
base_with (Some b) = if is_base b then Some b else None

-- The key, the lifetime and the base URI of a registration with these options, or the first refusal.
unfoldable pub identified : List CoapOption → Result (List ℕ × ℕ × List ℕ) Refusal
identified os =
    if has_link_format os
    then (if repeats_parameter os then Err refusal.Repeated
    else (or_refused refusal.Endpoint (key_with (named (codes "d") os) (named (codes "ep") os)) >>= λ key.
    or_refused refusal.Lifetime (lifetime_in (named (codes "lt") os)) >>= λ lifetime.
    or_refused refusal.Base (base_with (named (codes "base") os)) >>= λ base.
    Ok (key, lifetime, base)))
    else Err refusal.Format

-- The attributes, unless they are more than 64.
abbrev pub limited : List Attribute → Result (List Attribute) Refusal
limited attributes = only_if (nat_le (length attributes) 64) refusal.Many attributes

-- The attributes that a request gives, or the first refusal of a query.
unfoldable pub attributes_in : List CoapOption → Result (List Attribute) Refusal
attributes_in os =
    if list_all is_well_formed os then (if list_all has_allowed_name os then limited (given os) else Err refusal.Name)
    else Err refusal.Query

-- The attributes of the endpoint that a request registers, or the first refusal.
abbrev pub registered_attributes : List CoapOption → Result (List Attribute) Refusal
registered_attributes os = attributes_in os >>= λ given. limited (given ++ endpoint_type ∷ [])

-- The links of a payload.
unfoldable pub links_in : List ℕ → Result (List Link) Refusal
links_in payload = only_if (is_utf8 payload) refusal.Links payload >>= λ text.
    refused refusal.Links (links_from text) >>= λ links.
    only_if (list_all is_limited links) refusal.Target links

-- The key and the registration that a request describes, at the location with number 0.
unfoldable pub prepared : ℕ → Message → Result (List ℕ × RegistrationValue) Refusal
prepared now m = do
  parts ← identified m.options
  attributes ← registered_attributes m.options
  links ← links_in m.payload
  Ok (
    parts.0,
    record {
      number = 0;
      lifetime = parts.1;
      deadline = now + parts.1;
      base = parts.2;
      attributes =
          attributes;
      links = links;
    },
  )

-- The number of the location and the registrations after a registration, or the first refusal.
unfoldable pub registering : RegistryValue → ℕ → Message → Result (ℕ × RegistryValue) Refusal
registering v now m = do
  made ← prepared now m
  number ← or_refused refusal.Full (place_of v made.0)
  Ok (number, registered v made.0 (record made.1 { number = number }))

-- The lifetime that an update gives, if it gives one, or the refusal.
abbrev pub renewed_lifetime : Option (List ℕ) → Result (Option ℕ) Refusal
renewed_lifetime None = Ok None
renewed_lifetime (Some text) = or_refused refusal.Lifetime (lifetime_in (Some text)) >>= λ n. Ok (Some n)

-- The base URI that an update gives, if it gives one, or the refusal.
abbrev pub renewed_base : Option (List ℕ) → Result (Option (List ℕ)) Refusal
renewed_base None = Ok None
renewed_base (Some b) = if is_base b then Ok (Some b) else Err refusal.Base

-- The refusal of a request that names a location, unless it is there.
abbrev pub at_location : RegistryValue → ℕ → Result (Unit {0}) Refusal
at_location v number = if has_location v number then Ok tt else Err refusal.Path

-- RFC 9176 section 5.3.1: the lifetime and the base URI that an update gives, or the first refusal. The key of an
-- endpoint stays as it is.
unfoldable pub renewing : List CoapOption → Result (Option ℕ × Option (List ℕ)) Refusal
renewing os =
    if is_repeated (codes "lt") os || is_repeated (codes "base") os then Err refusal.Repeated
    else (renewed_lifetime (named (codes "lt") os) >>= λ lifetime.
    renewed_base (named (codes "base") os) >>= λ base.
    only_if (is_none (named (codes "ep") os) && is_none (named (codes "d") os)) refusal.Key (lifetime, base))

-- The lifetime, the base URI and the attributes that an update gives, or the first refusal.
abbrev pub update_parts : List CoapOption → Result ((Option ℕ × Option (List ℕ)) × List Attribute) Refusal
update_parts os = renewing os >>= λ parts. attributes_in os >>= λ given. Ok (parts, given)

-- The attributes of a registration after an update that gives these, or `None` if they stay as they are.
abbrev pub attributes_after : Option (List Attribute) → List Attribute → Result (Option (List Attribute)) Refusal
attributes_after old [] = Ok None
attributes_after None (a ∷ new) = Ok None
attributes_after (Some old) (a ∷ new) = limited (merged old (a ∷ new)) >>= λ attributes. Ok (Some attributes)

-- The registrations after the one at this location got these attributes, if any.
abbrev pub attributed_if : RegistryValue → ℕ → Option (List Attribute) → RegistryValue
attributed_if v number None = v
attributed_if v number (Some attributes) = attributed v number attributes

-- The result of an update with these parameters and attributes, and the registrations after it.
abbrev pub updating_with : RegistryValue → ℕ → ℕ
    → Result ((Option ℕ × Option (List ℕ)) × Option (List Attribute)) Refusal
    → Result (Unit {0}) Refusal × RegistryValue
updating_with v now number (Err e) = (Err e, v)
updating_with v now number (Ok x) =
    (at_location (attributed_if v number x.1) number, updated (attributed_if v number x.1) number now x.0.0 x.0.1)

-- The attributes of the endpoint at this location.
abbrev pub attributes_at_location : RegistryValue → ℕ → Option (List Attribute)
attributes_at_location v number = option_map (λ r. r.attributes) (found_at v.entries number)

-- The result of an update, and the registrations after it. Its payload is empty.
unfoldable pub updating : RegistryValue → ℕ → ℕ → Message → Result (Unit {0}) Refusal × RegistryValue
updating v now number m =
    if length m.payload == 0
    then updating_with v now number
    (update_parts m.options >>= λ x. attributes_after (attributes_at_location v number) x.1 >>= λ attributes.
    Ok (x.0, attributes))
    else (Err refusal.Payload, v)

-- The listing with all results: endpoints, or resources.
abbrev pub listed : RegistryValue → Bool → List CriterionValue → ListingValue → ListingValue
listed v endpoints criteria l =
    if endpoints then fold (offered_endpoint criteria) l (registrations v) else fold (offered_links criteria) l
    (registrations v)

-- The refusal of a lookup whose results are too large.
abbrev pub fits_text : Option (List ℕ) → Result (Unit {0}) Refusal
fits_text None = Err refusal.TooLarge
fits_text (Some text) = Ok tt

-- The result of a lookup with these criteria of this part, and the listing after it. The request accepts link
-- format, or not.
abbrev pub looking_up_with : RegistryValue → ListingValue → Bool → ℕ → Bool → Option (List CriterionValue)
    → Option PageValue → Result (Unit {0}) Refusal × ListingValue
looking_up_with v l endpoints limit accepted None page = (Err refusal.Query, l)
looking_up_with v l endpoints limit accepted (Some criteria) None = (Err refusal.Query, l)
looking_up_with v l endpoints limit accepted (Some criteria) (Some page) =
    if accepted then (
      fits_text (listed v endpoints criteria (started l page limit)).text,
      listed v endpoints criteria
          (started l page limit),
    )
    else (Err refusal.Accept, l)

-- RFC 9176 section 6: the result of a lookup, and the listing after it.
unfoldable pub looking_up : RegistryValue → ListingValue → Bool → ℕ → List CoapOption
    → Result (Unit {0}) Refusal × ListingValue
looking_up v l endpoints limit os =
    looking_up_with v l endpoints limit (accepts_link_format os) (criteria_from [] os)
    (page_in (named (codes "page") os) (named (codes "count") os))
