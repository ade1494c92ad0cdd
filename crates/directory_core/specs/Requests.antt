-- The parts of a request to a resource directory.
use Rattle.std.specs.Prelude.{ℕ, ◌+◌, ◌*◌, ◌^◌, ◌-◌, Bool, false, ◌||◌, is_some, ◌++◌, length, nat_lt, nat_le, List, []}
use Rattle.std.specs.Prelude.{◌∷◌, take, drop, nat_eq, codes, Option, Some, None, option_map, position, ◌==◌}
use Rattle.std.specs.Prelude.{if◌then◌else◌}
use Rattle.std.specs.Option.{option_and_then}
use Rattle.std.specs.Cmp.Lexicographic.{pointwise}
use Rattle.coap_text.specs.Words.{decimal_value}
use Rattle.coap_wire.specs.Message.{CoapOption}
use Rattle.directory_registry.specs.Matching.{CriterionValue}
use Rattle.directory_registry.specs.Lookups.{PageValue}
use Rattle.directory_core.specs.declared.route.Route.{Route}
use Rattle.directory_core.specs.declared.route.Route.TheVariants as route

-- The name and the value of a query. `None` if it has no `=`.
abbrev pub split_query : List ℕ → Option (List ℕ × List ℕ)
split_query q = option_map (λ i. (take i q, drop (i + 1) q)) (position (λ b. b == 61) q)

-- The value of these parts of a query, if they have this name.
abbrev pub value_with : List ℕ → Option (List ℕ × List ℕ) → Option (List ℕ)
value_with name None = None
value_with name (Some x) = if pointwise nat_eq x.0 name then Some x.1 else None

-- The value of an option that is a query with this name.
abbrev pub query_value : List ℕ → CoapOption → Option (List ℕ)
query_value name o = if o.number == 15 then value_with name (split_query o.value) else None

-- The first value, or that of the others.
abbrev pub first_value : Option (List ℕ) → Option (List ℕ) → Option (List ℕ)
first_value None others = others
first_value (Some v) others = Some v

-- The value of the first query with this name.
abbrev pub named : List ℕ → List CoapOption → Option (List ℕ)
named name [] = None
named name (o ∷ os) = first_value (query_value name o) (named name os)

-- Two queries or more have this name.
abbrev pub is_repeated : List ℕ → List CoapOption → Bool
is_repeated name [] = false
is_repeated name (o ∷ os) = if is_some (query_value name o) then is_some (named name os) else is_repeated name os

-- RFC 9176 section 5: a parameter of a registration is given twice.
abbrev pub repeats_parameter : List CoapOption → Bool
repeats_parameter os =
    is_repeated (codes "ep") os
    || (is_repeated (codes "d") os || (is_repeated (codes "lt") os || is_repeated (codes "base") os))

-- A query with this name selects a part of the results.
abbrev pub is_part_name : List ℕ → Bool
is_part_name name = pointwise nat_eq name (codes "page") || pointwise nat_eq name (codes "count")

-- The criteria with that of these parts of a query. `None` if the query has no `=`, or if there are 16
-- criteria already.
abbrev pub with_parts : List CriterionValue → Option (List ℕ × List ℕ) → Option (List CriterionValue)
with_parts criteria None = None
with_parts criteria (Some x) =
    if is_part_name x.0 then Some criteria
    else (if nat_lt (length criteria) 16 then Some (criteria ++ record { name = x.0; pattern = x.1 } ∷ []) else None)

-- The criteria with that of an option, if it is a query.
abbrev pub with_criterion : List CriterionValue → CoapOption → Option (List CriterionValue)
with_criterion criteria o = if o.number == 15 then with_parts criteria (split_query o.value) else Some criteria

-- These criteria, and those of the options. `None` if a query is malformed, or if there are more than 16 criteria.
abbrev pub criteria_from : List CriterionValue → List CoapOption → Option (List CriterionValue)
criteria_from criteria [] = Some criteria
criteria_from criteria (o ∷ os) = option_and_then (λ more. criteria_from more os) (with_criterion criteria o)

-- The number of 32 bits, or `None`.
abbrev pub small_of : Option ℕ → Option ℕ
small_of None = None
small_of (Some n) = if nat_le n 4294967295 then Some n else None

-- The number of 32 bits that a word means.
abbrev pub small_value : List ℕ → Option ℕ
small_value word = small_of (decimal_value word)

-- The part with this number of results, of which there are `page` before it.
abbrev pub page_with : Option ℕ → Option ℕ → Option PageValue
page_with page None = None
page_with None (Some n) = None
page_with (Some p) (Some n) = Some (record { skip = p * n; count = n })

-- The part of the results that the parameters `page` and `count` ask for. It is all without them, and `None` if they
-- are malformed or `count` is missing.
abbrev pub page_in : Option (List ℕ) → Option (List ℕ) → Option PageValue
page_in None None = Some (record { skip = 0; count = 2 ^ 64 - 1 })
page_in (Some p) None = None
page_in None (Some c) = page_with (Some 0) (small_value c)
page_in (Some p) (Some c) = page_with (small_value p) (small_value c)

-- The lifetime, if it is allowed.
abbrev pub allowed_lifetime : Option ℕ → Option ℕ
allowed_lifetime None = None
allowed_lifetime (Some n) = if nat_lt n 1 then None else Some n

-- RFC 9176 section 5: the lifetime that the parameter `lt` gives, in seconds.
abbrev pub lifetime_in : Option (List ℕ) → Option ℕ
lifetime_in None = Some 90000
lifetime_in (Some text) = allowed_lifetime (small_value text)

-- The segments of the path.
abbrev pub segments : List CoapOption → List (List ℕ)
segments [] = []
segments (o ∷ os) = if o.number == 11 then o.value ∷ segments os else segments os

-- The location with this number.
abbrev pub location_of : Option ℕ → Route
location_of None = route.Elsewhere
location_of (Some n) = route.Location n

-- The kind of lookup with this name.
abbrev pub lookup_of : List ℕ → Route
lookup_of name =
    if pointwise nat_eq name (codes "ep") then route.Endpoints
    else (if pointwise nat_eq name (codes "res") then route.Resources else route.Elsewhere)

-- The resource that a path names.
abbrev pub route_of : List (List ℕ) → Route
route_of [] = route.Elsewhere
route_of (a ∷ []) = if pointwise nat_eq a (codes "rd") then route.Registrations else route.Elsewhere
route_of (a ∷ b ∷ []) =
    if pointwise nat_eq a (codes "rd") then location_of (decimal_value b)
    else (if pointwise nat_eq a (codes "rd-lookup") then lookup_of b else route.Elsewhere)
route_of (a ∷ b ∷ c ∷ more) = route.Elsewhere
