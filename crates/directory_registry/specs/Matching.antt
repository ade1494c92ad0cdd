-- RFC 9176 section 6.1, RFC 6690 section 4.1: the links and endpoints that meet search criteria.
use Rattle.std.specs.Prelude.{ℕ, ◌-◌, Bool, false, ◌||◌, List, [], ◌++◌, length, take, nat_eq, codes, decimal}
use Rattle.std.specs.Prelude.{if◌then◌else◌}
use Rattle.std.specs.List.{starts_with, ends_with, list_any, list_all}
use Rattle.std.specs.Cmp.Lexicographic.{pointwise}
use Rattle.coap_text.specs.Words.{parts}
use Rattle.directory_links.specs.Characters.{is_same_name}
use Rattle.directory_links.specs.Links.{AttributeValue, NoValue, ExtendedValue, TokenValue, QuotedValue, Attribute}
use Rattle.directory_links.specs.Links.{Link}
use Rattle.directory_registry.specs.Registrations.{RegistrationValue}

-- A search criterion: a name and a pattern. Names do not differ by the case of their letters.
pub record CriterionValue : Type 0 where
  pub name : List ℕ
  pub pattern : List ℕ

-- The value matches the pattern: it is the pattern, or begins with the bytes before the `*` that ends the pattern.
abbrev pub value_matches : List ℕ → List ℕ → Bool
value_matches pattern value =
    if ends_with nat_eq pattern (codes "*") then starts_with nat_eq value (take (length pattern - 1) pattern)
    else pointwise nat_eq value pattern

-- The words of a value, separated by spaces.
abbrev pub words : List ℕ → List (List ℕ)
words value = parts 32 value

-- The value of an attribute with this name is a list of words (RFC 6690 section 2: `relation-types`).
abbrev pub is_list_name : List ℕ → Bool
is_list_name name =
    is_same_name name (codes "rt")
    || (is_same_name name (codes "if") || (is_same_name name (codes "rel") || is_same_name name (codes "rev")))

-- The value meets the criterion, whose name is that of its attribute.
abbrev pub value_meets : CriterionValue → List ℕ → Bool
value_meets c value =
    if is_list_name c.name then list_any (value_matches c.pattern) (words value) else value_matches c.pattern value

-- An attribute with this value meets the criterion, whose name is that of the attribute. An `ext-value` meets none.
abbrev pub given_value_meets : CriterionValue → AttributeValue → Bool
given_value_meets c NoValue = value_meets c []
given_value_meets c (ExtendedValue text) = false
given_value_meets c (TokenValue text) = value_meets c text
given_value_meets c (QuotedValue text) = value_meets c text

-- The attribute meets the criterion.
abbrev pub attribute_meets : CriterionValue → Attribute → Bool
attribute_meets c a = if is_same_name a.name c.name then given_value_meets c a.value else false

-- The target is relative to the base URI.
abbrev pub is_relative : List ℕ → Bool
is_relative target = starts_with nat_eq target (codes "/")

-- The URI of the target, with this base URI.
abbrev pub resolved : List ℕ → List ℕ → List ℕ
resolved base target = if is_relative target then base ++ target else target

-- A link meets the criterion. The base URI is that of its registration.
abbrev pub link_meets : CriterionValue → List ℕ → Link → Bool
link_meets c base l =
    if is_same_name c.name (codes "href") then value_matches c.pattern (resolved base l.target)
    else list_any (attribute_meets c) l.attributes

-- The path of the location of a registration.
abbrev pub location : ℕ → List ℕ
location number = codes "/rd/" ++ decimal number

-- A registration itself meets the criterion.
abbrev pub endpoint_meets : CriterionValue → RegistrationValue → Bool
endpoint_meets c r =
    if is_same_name c.name (codes "href") then value_matches c.pattern (location r.number)
    else (if is_same_name c.name (codes "base") then value_matches c.pattern r.base
    else list_any (attribute_meets c) r.attributes)

-- A resource lookup with these criteria selects the link of the registration: the link or the registration meets each.
abbrev pub is_selected_link : List CriterionValue → RegistrationValue → Link → Bool
is_selected_link criteria r l = list_all (λ c. link_meets c r.base l || endpoint_meets c r) criteria

-- An endpoint lookup with these criteria selects the registration: it or one of its links meets each.
abbrev pub is_selected_endpoint : List CriterionValue → RegistrationValue → Bool
is_selected_endpoint criteria r = list_all (λ c. endpoint_meets c r || list_any (link_meets c r.base) r.links) criteria
