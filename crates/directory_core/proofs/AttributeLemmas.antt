-- The attributes of an endpoint.
use Rattle.std.specs.Str.{is_utf8}
use Rattle.std.proofs.Common.{arith, ◌⊎◌, inl, inr}
use Rattle.std.proofs.Common.{◌≡◌, ℕ, ◌≤◌, Bool, true, false, not, List, [], ◌∷◌, ◌++◌, length}
use Rattle.std.proofs.Common.{filter, codes, nat_eq, Option, Some, None, Ok, refl, sym}
use Rattle.std.specs.List.{list_all, list_any}
use Rattle.std.specs.Cmp.Lexicographic.{pointwise}
use Rattle.std.proofs.lemmas.Bool.{le-leb, and_parts}
use Rattle.coap_wire.specs.Message.{CoapOption}
use Rattle.directory_links.specs.Characters.{is_name_char}
use Rattle.directory_links.specs.Links.{Attribute, is_attribute, is_parmname, is_quoted_text}
use Rattle.directory_core.specs.Requests.{split_query}
use Rattle.directory_core.specs.Parameters.{is_plain_char, is_well_formed, are_well_formed_parts, is_allowed_name}
use Rattle.directory_core.specs.Parameters.{has_allowed_name, has_allowed_parts, parameter_names}
use Rattle.directory_core.specs.Parameters.{parts_given, option_given, with_first, given, has_name}
use Rattle.directory_core.specs.Parameters.{merged, endpoint_type}
use Rattle.directory_core.specs.Changes.{limited, attributes_in}

-- ---- the limit

pub few : (attributes : List Attribute) → length attributes ≤ 64 → limited attributes ≡ Ok attributes
few attributes h = rw (le-leb (length attributes) 64 h)

-- The queries are well-formed, and give few attributes.
pub all_given : (os : List CoapOption) (list : List Attribute) → list_all is_well_formed os ≡ true
    → list_all has_allowed_name os ≡ true → list ≡ given os → length list ≤ 64 → attributes_in os ≡ Ok list
unfolding attributes_in
all_given os list well allowed e h = rw (well, allowed, sym e) (few list h)

-- ---- a link can have each attribute

pub same_list : (a b : List ℕ) → pointwise nat_eq a b ≡ true → a ≡ b
same_list [] [] h = refl
same_list [] (y ∷ b) h = absurd cc
same_list (x ∷ a) [] h = absurd cc
same_list (x ∷ a) (y ∷ b) h = grind (arith, same_list a b)

plain_quoted : (v : List ℕ) → list_all is_plain_char v ≡ true → is_quoted_text false v ≡ true
unfolding is_quoted_text
plain_quoted [] h = refl
plain_quoted (b ∷ v) h = grind (arith, h, plain_quoted v)

-- The name of a parameter.
abbrev pub IsParameter : List ℕ → Type 0
IsParameter name = (name ≡ codes "ep") ⊎ ((name ≡ codes "d") ⊎ ((name ≡ codes "lt") ⊎ (name ≡ codes "base")))

pub param_cases : (name : List ℕ) → list_any (pointwise nat_eq name) parameter_names ≡ true → IsParameter name
param_cases name h = grind (
  arith,
  h,
  same_list name (codes "ep"),
  same_list name (codes "d"),
  same_list name (codes "lt"),
  same_list name (codes "base"),
)

-- The names of the parameters are names of attributes.
parameter_named : (name : List ℕ) → IsParameter name → is_parmname name ≡ true
unfolding is_name_char
parameter_named name (inl i) = rw i refl
parameter_named name (inr (inl i)) = rw i refl
parameter_named name (inr (inr (inl i))) = rw i refl
parameter_named name (inr (inr (inr i))) = rw i refl

allowed_named : (name : List ℕ) → is_allowed_name name ≡ true → is_parmname name ≡ true
allowed_named name h =
    let named = λ (i : list_any (pointwise nat_eq name) parameter_names ≡ true). parameter_named name
    (param_cases name i) in
    grind (arith, h, named)

parts_attribute : (p : Option (List ℕ × List ℕ)) (attributes : List Attribute) → are_well_formed_parts p ≡ true
    → has_allowed_parts p ≡ true → list_all is_attribute attributes ≡ true
    → list_all is_attribute (with_first (parts_given p) attributes) ≡ true
parts_attribute None attributes well allowed rest = rest
parts_attribute (Some x) attributes well allowed rest =
    grind (arith, allowed_named x.0 allowed, plain_quoted x.1 (and_parts (is_utf8 x.1) _ well).1, rest)

option_attribute : (o : CoapOption) (attributes : List Attribute) → is_well_formed o ≡ true → has_allowed_name o ≡ true
    → list_all is_attribute attributes ≡ true → list_all is_attribute (with_first (option_given o) attributes) ≡ true
option_attribute o attributes well allowed rest =
    grind (arith, well, allowed, rest, parts_attribute (split_query o.value) attributes)

pub each_given : (os : List CoapOption) → list_all is_well_formed os ≡ true → list_all has_allowed_name os ≡ true
    → list_all is_attribute (given os) ≡ true
each_given [] well allowed = refl
each_given (o ∷ os) well allowed =
    let w = and_parts (is_well_formed o) _ well in
    let a = and_parts (has_allowed_name o) _ allowed in
    option_attribute o (given os) w.0 a.0 (each_given os w.1 a.1)

pub each_joined : (xs ys : List Attribute) → list_all is_attribute xs ≡ true → list_all is_attribute ys ≡ true
    → list_all is_attribute (xs ++ ys) ≡ true
each_joined [] ys h k = k
each_joined (x ∷ xs) ys h k = grind (arith, h, k, each_joined xs ys)

pub each_kept : (keep : Attribute → Bool) (xs : List Attribute) → list_all is_attribute xs ≡ true
    → list_all is_attribute (filter keep xs) ≡ true
each_kept keep [] h = refl
each_kept keep (x ∷ xs) h = grind (arith, h, each_kept keep xs)

pub each_merged : (old new : List Attribute) → list_all is_attribute old ≡ true → list_all is_attribute new ≡ true
    → list_all is_attribute (merged old new) ≡ true
each_merged old new h k = each_joined _ new (each_kept (λ a. not (has_name new a.name)) old h) k

pub type_attribute : list_all is_attribute (endpoint_type ∷ []) ≡ true
unfolding is_name_char is_quoted_text
type_attribute = refl
