-- Defined by this project: labels, by which a lookup of one endpoint finds the registrations that can match.
use Rattle.std.specs.Prelude.{ℕ, ◌+◌, ◌*◌, ◌%◌, Bool, true, not, ◌&&◌, List, [], ◌∷◌, fold, nat_eq, codes, Option, Some}
use Rattle.std.specs.Prelude.{None, if◌then◌else◌}
use Rattle.std.specs.List.{list_all, ends_with}
use Rattle.std.specs.Cmp.Lexicographic.{pointwise}
use Rattle.directory_links.specs.Characters.{is_same_name}
use Rattle.directory_links.specs.Links.{AttributeValue, NoValue, ExtendedValue, TokenValue, QuotedValue, Attribute}
use Rattle.directory_links.specs.Links.{Link}
use Rattle.directory_registry.specs.Registrations.{RegistrationValue}
use Rattle.directory_registry.specs.Matching.{CriterionValue}

-- The label of the bytes of a name after this label: a number below 2^39.
abbrev pub next_label : ℕ → ℕ → ℕ
next_label label b = (label * 16777619 + b + 1) % 549755813888

-- The label of a name.
abbrev pub name_label : List ℕ → ℕ
name_label name = fold next_label 0 name

-- The label of the value of `ep`. An `ext-value` meets no criterion, and has none.
abbrev pub value_label : AttributeValue → ℕ
value_label NoValue = name_label []
value_label (ExtendedValue text) = 0
value_label (TokenValue text) = name_label text
value_label (QuotedValue text) = name_label text

-- The value has this label, or meets no criterion.
abbrev pub has_label : ℕ → AttributeValue → Bool
has_label label NoValue = nat_eq (name_label []) label
has_label label (ExtendedValue text) = true
has_label label (TokenValue text) = nat_eq (name_label text) label
has_label label (QuotedValue text) = nat_eq (name_label text) label

-- The name of the attribute is `ep`.
abbrev pub is_endpoint_name : List ℕ → Bool
is_endpoint_name name = is_same_name name (codes "ep")

-- The label of the first attribute `ep`, or 0.
abbrev pub first_label : List Attribute → ℕ
first_label [] = 0
first_label (a ∷ others) = if is_endpoint_name a.name then value_label a.value else first_label others

-- The attribute is not `ep`, or its value has this label.
abbrev pub agrees : ℕ → Attribute → Bool
agrees label a = if is_endpoint_name a.name then has_label label a.value else true

-- Each `ep` of the link has this label.
abbrev pub link_agrees : ℕ → Link → Bool
link_agrees label l = list_all (agrees label) l.attributes

-- The label, if each `ep` of these attributes and links has it. Otherwise 0, the label of those that a lookup of any
-- endpoint reads.
abbrev pub shared_label : ℕ → List Attribute → List Link → ℕ
shared_label label attributes links =
    if list_all (agrees label) attributes && list_all (link_agrees label) links then label else 0

-- The label of a registration with these attributes and links.
unfoldable pub label_with : List Attribute → List Link → ℕ
label_with attributes links = shared_label (first_label attributes) attributes links

-- The label of a registration.
abbrev pub registration_label : RegistrationValue → ℕ
registration_label r = label_with r.attributes r.links

-- The criterion asks for an endpoint of exactly this name. (One with `EP` is met by the same registrations, but a
-- lookup reads all for it.)
abbrev pub is_exact : CriterionValue → Bool
is_exact c = pointwise nat_eq c.name (codes "ep") && not (ends_with nat_eq c.pattern (codes "*"))

-- The name of the endpoint that the criteria ask for, if they ask for exactly one name.
abbrev pub exact_name : List CriterionValue → Option (List ℕ)
exact_name [] = None
exact_name (c ∷ cs) = if is_exact c then Some c.pattern else exact_name cs

-- A label and the number of a location as one number, so that the numbers of one label follow each other.
unfoldable pub packed : ℕ → ℕ → ℕ
packed label number = label * 18446744073709551616 + number
