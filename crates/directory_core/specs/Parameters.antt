-- RFC 9176 section 5: the parameters of a registration.
use Rattle.std.specs.Prelude.{ℕ, ◌+◌, Bool, true, false, not, ◌&&◌, ◌||◌, List, [], ◌∷◌, ◌++◌, length, take, drop}
use Rattle.std.specs.Prelude.{nat_eq, nat_lt, nat_le, chars, codes, position, filter, Option, Some, None, ◌==◌}
use Rattle.std.specs.Prelude.{if◌then◌else◌}
use Rattle.std.specs.Option.{option_map_or}
use Rattle.std.specs.List.{list_all, list_any, starts_with}
use Rattle.std.specs.Cmp.Lexicographic.{pointwise}
use Rattle.std.specs.Str.{is_utf8}
use Rattle.directory_links.specs.Characters.{is_same_name, is_target_char}
use Rattle.directory_links.specs.Links.{QuotedValue, Attribute, Link, is_parmname}
use Rattle.coap_wire.specs.Message.{CoapOption}
use Rattle.directory_core.specs.Requests.{split_query}

-- The character is none of 0 to 31 and of 127 to 159.
abbrev pub is_key_char : ℕ → Bool
is_key_char c = nat_le 32 c && (nat_lt c 127 || nat_le 160 c)

-- The bytes are UTF-8, and each character can be in the name of an endpoint or a sector.
abbrev pub is_key_text : List ℕ → Bool
is_key_text bytes = is_utf8 bytes && list_all is_key_char (chars bytes)

-- The key of an endpoint with this sector and name: a byte with the length of the sector, the sector, and the name.
-- `None` if a name has more than 63 bytes or other characters, or if that of the endpoint is empty.
abbrev pub key_in : List ℕ → List ℕ → Option (List ℕ)
key_in sector name =
    if nat_lt 63 (length sector) then None
    else (if nat_lt 63 (length name) then None
    else (if length name == 0 then None
    else (if is_key_text sector && is_key_text name then Some (length sector ∷ sector ++ name) else None)))

-- RFC 3986 section 3.1: a character of a scheme.
abbrev pub is_scheme_char : ℕ → Bool
is_scheme_char b =
    (nat_le 48 b && nat_le b 57)
    || ((nat_le 65 b && nat_le b 90) || ((nat_le 97 b && nat_le b 122) || ((b == 43) || ((b == 45) || (b == 46)))))

-- The text is a scheme.
abbrev pub is_scheme : List ℕ → Bool
is_scheme s = nat_lt 0 (length s) && list_all is_scheme_char s

-- RFC 3986 section 3.2: a character of an authority. It is one of a URI other than those that end the authority.
abbrev pub is_authority_char : ℕ → Bool
is_authority_char b = is_target_char b && (not (b == 47) && (not (b == 63) && not (b == 35)))

-- The text is `//` and an authority.
abbrev pub is_authority : List ℕ → Bool
is_authority r = nat_lt 2 (length r) && (starts_with nat_eq r (codes "//") && list_all is_authority_char (drop 2 r))

-- The text is a URI of a scheme and an authority.
abbrev pub is_base : List ℕ → Bool
is_base b = option_map_or (λ i. is_scheme (take i b) && is_authority (drop (i + 1) b)) (position (λ c. c == 58) b) false

-- The target begins with a scheme.
abbrev pub has_scheme : List ℕ → Bool
has_scheme t = option_map_or (λ i. is_scheme (take i t)) (position (λ c. c == 58) t) false

-- RFC 9176 appendix C: the target begins with a scheme or with a single slash.
abbrev pub is_limited : Link → Bool
is_limited l = has_scheme l.target
    || (starts_with nat_eq l.target (codes "/") && not (starts_with nat_eq l.target (codes "//")))

-- A character that is written in a quoted string as it is.
abbrev pub is_plain_char : ℕ → Bool
is_plain_char b = nat_le 32 b && (not (b == 127) && (not (b == 34) && not (b == 92)))

-- These parts of a query are there, and the value is UTF-8 that can be quoted.
abbrev pub are_well_formed_parts : Option (List ℕ × List ℕ) → Bool
are_well_formed_parts None = false
are_well_formed_parts (Some x) = is_utf8 x.1 && list_all is_plain_char x.1

-- The option is no query, or a well-formed one.
abbrev pub is_well_formed : CoapOption → Bool
is_well_formed o = if o.number == 15 then are_well_formed_parts (split_query o.value) else true

-- The names of the parameters of a registration.
abbrev pub parameter_names : List (List ℕ)
parameter_names = codes "ep" ∷ codes "d" ∷ codes "lt" ∷ codes "base" ∷ []

-- The names of the attributes that the link of an endpoint has of its own, or that would make it another link.
abbrev pub own_names : List (List ℕ)
own_names = codes "rt" ∷ codes "rel" ∷ codes "rev" ∷ codes "anchor" ∷ codes "href" ∷ []

-- A query of a registration can have this name. It is that of a parameter, or the `parmname` (RFC 6690 section 2) of a
-- further attribute. Such a name is none of the names above, also not in other letters: readers of links do not
-- distinguish these (RFC 8288 section 3).
abbrev pub is_allowed_name : List ℕ → Bool
is_allowed_name name =
    list_any (pointwise nat_eq name) parameter_names
    || (is_parmname name && not
    (list_any (is_same_name name) parameter_names || list_any (is_same_name name) own_names))

-- The name of these parts of a query is allowed.
abbrev pub has_allowed_parts : Option (List ℕ × List ℕ) → Bool
has_allowed_parts None = false
has_allowed_parts (Some x) = is_allowed_name x.0

-- The option is no query, or one with an allowed name.
abbrev pub has_allowed_name : CoapOption → Bool
has_allowed_name o = if o.number == 15 then has_allowed_parts (split_query o.value) else true

-- A query with this name is no attribute of the endpoint.
abbrev pub is_own_name : List ℕ → Bool
is_own_name name = pointwise nat_eq name (codes "lt") || pointwise nat_eq name (codes "base")

-- The attribute of an endpoint that these parts of a query give, if they give one.
abbrev pub parts_given : Option (List ℕ × List ℕ) → Option Attribute
parts_given None = None
parts_given (Some x) = if is_own_name x.0 then None else Some (record { name = x.0; value = QuotedValue x.1 })

abbrev pub option_given : CoapOption → Option Attribute
option_given o = if o.number == 15 then parts_given (split_query o.value) else None

-- These attributes, and the one before them, if there is one.
abbrev pub with_first : Option Attribute → List Attribute → List Attribute
with_first None others = others
with_first (Some a) others = a ∷ others

-- The attributes of an endpoint that the options give, in order.
abbrev pub given : List CoapOption → List Attribute
given [] = []
given (o ∷ os) = with_first (option_given o) (given os)

-- An attribute with this name is among these.
abbrev pub has_name : List Attribute → List ℕ → Bool
has_name attributes name = list_any (λ a. is_same_name a.name name) attributes

-- RFC 9176 section 5.3.1: the attributes after an update gives these. They replace all of the same names.
abbrev pub merged : List Attribute → List Attribute → List Attribute
merged old new = filter (λ a. not (has_name new a.name)) old ++ new

-- The resource type of an endpoint (RFC 9176 section 9.2).
abbrev pub endpoint_type : Attribute
endpoint_type = record { name = codes "rt"; value = QuotedValue (codes "core.rd-ep") }
