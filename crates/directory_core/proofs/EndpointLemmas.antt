-- The attributes that name an endpoint.
use Rattle.std.proofs.Common.{arith}
use Rattle.std.proofs.Common.{◌≡◌, ◌⊎◌, inl, inr, ℕ, Bool, true, false, cond, not, ◌&&◌, ◌||◌, List, [], ◌∷◌, ◌++◌}
use Rattle.std.proofs.Common.{length, map, filter, codes, nat_eq, Option, Some, None, is_some, is_none}
use Rattle.std.proofs.Common.{refl, ap, sym, ◌∙◌, true≢false}
use Rattle.std.specs.List.{list_all, list_any}
use Rattle.std.specs.Str.{str_to_ascii_lowercase}
use Rattle.std.specs.Cmp.Lexicographic.{pointwise}
use Rattle.std.proofs.lemmas.Bool.{and_parts, both_ways, cases_Bool, false_from_ne_true, or_left, or_right}
use Rattle.std.proofs.lemmas.Cmp.{nat_list_eq_equiv}
use Rattle.std.proofs.lemmas.List.{append-nil}
use Rattle.std.proofs.lemmas.List.Elements.{filter-append}
use Rattle.coap_wire.specs.Message.{CoapOption}
use Rattle.directory_links.specs.Characters.{is_same_name}
use Rattle.directory_links.specs.Links.{QuotedValue, Attribute}
use Rattle.directory_core.specs.Requests.{split_query, value_with, query_value, named, is_repeated}
use Rattle.directory_core.specs.Requests.{repeats_parameter}
use Rattle.directory_core.specs.Parameters.{key_in, parameter_names, is_allowed_name, has_allowed_parts}
use Rattle.directory_core.specs.Parameters.{has_allowed_name, is_own_name, parts_given, option_given, with_first}
use Rattle.directory_core.specs.Parameters.{given, has_name, merged, endpoint_type}
use Rattle.directory_core.specs.Changes.{key_with}
use Rattle.directory_core.specs.Endpoints.{attributes_named, quoted, IsNamed}
use Rattle.directory_core.proofs.AttributeLemmas.{same_list, IsParameter, param_cases}

-- ---- the names of parameters

parameter_if_same : (name : List ℕ) → is_allowed_name name ≡ true → list_any (is_same_name name) parameter_names ≡ true
    → list_any (pointwise nat_eq name) parameter_names ≡ true
parameter_if_same name allowed same = grind (arith, allowed, same)

exact : (p : List ℕ) → is_same_name p p ≡ true
    → ((name : List ℕ) → is_same_name name p ≡ true → list_any (is_same_name name) parameter_names ≡ true)
    → ((name : List ℕ) → IsParameter name → is_same_name name p ≡ pointwise nat_eq name p) → (name : List ℕ)
    → is_allowed_name name ≡ true → is_same_name name p ≡ pointwise nat_eq name p
exact p self among each name allowed = by (cases_Bool (is_same_name name p))
  where
    by : (is_same_name name p ≡ true) ⊎ (is_same_name name p ≡ false) → is_same_name name p ≡ pointwise nat_eq name p
    by (inl e) = each name (param_cases name (parameter_if_same name allowed (among name e)))
    by (inr e) = e ∙ sym (false_from_ne_true _ (λ h. both_ways _ e (rw (same_list name p h) self)))

-- An allowed name that is the same but for the case of letters is the same.
exact_ep : (name : List ℕ) → is_allowed_name name ≡ true
    → is_same_name name (codes "ep") ≡ pointwise nat_eq name (codes "ep")
exact_ep = exact (codes "ep") refl (λ name e. or_left (is_same_name name (codes "ep")) _ e) each
  where
    each : (name : List ℕ) → IsParameter name → is_same_name name (codes "ep") ≡ pointwise nat_eq name (codes "ep")
    each name (inl i) = rw i refl
    each name (inr (inl i)) = rw i refl
    each name (inr (inr (inl i))) = rw i refl
    each name (inr (inr (inr i))) = rw i refl

exact_d : (name : List ℕ) → is_allowed_name name ≡ true
    → is_same_name name (codes "d") ≡ pointwise nat_eq name (codes "d")
exact_d =
    exact (codes "d") refl (λ name e. or_right (is_same_name name (codes "ep")) _
    (or_left (is_same_name name (codes "d")) _ e)) each
  where
    each : (name : List ℕ) → IsParameter name → is_same_name name (codes "d") ≡ pointwise nat_eq name (codes "d")
    each name (inl i) = rw i refl
    each name (inr (inl i)) = rw i refl
    each name (inr (inr (inl i))) = rw i refl
    each name (inr (inr (inr i))) = rw i refl

-- ---- the values of a parameter

abbrev with_value : Option (List ℕ) → List (List ℕ) → List (List ℕ)
with_value None vs = vs
with_value (Some v) vs = v ∷ vs

-- The values of all queries with this name.
abbrev values : List ℕ → List CoapOption → List (List ℕ)
values name [] = []
values name (o ∷ os) = with_value (query_value name o) (values name os)

none_of : (o : Option (List ℕ)) → is_some o ≡ false → o ≡ None
none_of None e = refl
none_of (Some x) e = absurd cc

no_values : (p : List ℕ) (os : List CoapOption) → named p os ≡ None → values p os ≡ []
no_values p [] h = refl
no_values p (o ∷ os) h = grind (arith, h, no_values p os)

one_value : (p : List ℕ) (os : List CoapOption) (v : List ℕ) → is_repeated p os ≡ false → named p os ≡ Some v
    → values p os ≡ v ∷ []
one_value p [] v r h = absurd cc
one_value p (o ∷ os) v r h =
    grind (arith, r, h, one_value p os v, no_values p os, none_of (named p os))

module _ (p : List ℕ)
    (exact : (name : List ℕ) → is_allowed_name name ≡ true → is_same_name name p ≡ pointwise nat_eq name p)
    (other : is_own_name p ≡ false) where
  parts_named : (x : Option (List ℕ × List ℕ)) (list : List Attribute) (vs : List (List ℕ)) → has_allowed_parts x ≡ true
      → attributes_named p list ≡ map (quoted p) vs
      → attributes_named p (with_first (parts_given x) list) ≡ map (quoted p) (with_value (value_with p x) vs)
  parts_named None list vs allowed rest = rest
  parts_named (Some x) list vs allowed rest = by (is_own_name x.0) refl (pointwise nat_eq x.0 p) refl
    where
      one : Attribute
      one = record { name = x.0; value = QuotedValue x.1 }

      by : (own : Bool) → is_own_name x.0 ≡ own → (hit : Bool) → pointwise nat_eq x.0 p ≡ hit
          → attributes_named p (with_first (cond own None (Some one)) list) ≡ map (quoted p)
          (with_value (cond hit (Some x.1) None) vs)
      by true i true j = absurd (true≢false (sym i ∙ ap is_own_name (same_list x.0 p j) ∙ other))
      by true i false j = rest
      by false i true j =
          let name = same_list x.0 p j in
          ap (λ (b : Bool). cond b (one ∷ attributes_named p list) (attributes_named p list)) (exact x.0 allowed ∙ j)
          ∙ (λ k. quoted (name k) x.1 ∷ rest k)
      by false i false j = ap (λ (b : Bool). cond b (one ∷ attributes_named p list) (attributes_named p list))
          (exact x.0 allowed ∙ j) ∙ rest

  option_named : (o : CoapOption) (list : List Attribute) (vs : List (List ℕ)) → has_allowed_name o ≡ true
      → attributes_named p list ≡ map (quoted p) vs
      → attributes_named p (with_first (option_given o) list) ≡ map (quoted p) (with_value (query_value p o) vs)
  option_named o list vs allowed rest =
      grind (arith, allowed, rest, parts_named (split_query o.value) list vs)

  given_named : (os : List CoapOption) → list_all has_allowed_name os ≡ true
      → attributes_named p (given os) ≡ map (quoted p) (values p os)
  given_named [] allowed = refl
  given_named (o ∷ os) allowed =
      let parts = and_parts (has_allowed_name o) _ allowed in
      option_named o (given os) (values p os) parts.0 (given_named os parts.1)

  -- The attributes of a registration have no other ones of this name.
  registered_named : (os : List CoapOption) → list_all has_allowed_name os ≡ true → is_same_name (codes "rt") p ≡ false
      → attributes_named p (given os ++ endpoint_type ∷ []) ≡ map (quoted p) (values p os)
  registered_named os allowed not_type =
      simp (filter-append, not_type, append-nil) (given_named os allowed)

-- ---- attributes that an update gives

not_named : (p name : List ℕ) (new : List Attribute) → is_same_name name p ≡ true → attributes_named p new ≡ []
    → has_name new name ≡ false
not_named p name [] same none = refl
not_named p name (a ∷ new) same none =
    grind (
      arith,
      same,
      none,
      not_named p name new,
      nat_list_eq_equiv.congr (str_to_ascii_lowercase a.name) (str_to_ascii_lowercase name) (str_to_ascii_lowercase p),
    )

module _ (p : List ℕ) (new : List Attribute) (none : attributes_named p new ≡ []) where
  kept_named : (old : List Attribute)
      → attributes_named p (filter (λ a. not (has_name new a.name)) old) ≡ attributes_named p old
  kept_named [] = refl
  kept_named (a ∷ old) =
      grind (arith, kept_named old, λ (e : is_same_name a.name p ≡ true). not_named p a.name new e none)

  pub merged_named : (old : List Attribute) → attributes_named p (merged old new) ≡ attributes_named p old
  merged_named old = simp (filter-append, none, append-nil) (kept_named old)

-- ---- an endpoint that is registered, and one that is updated

key_parts : (sector name key : List ℕ) → key_in sector name ≡ Some key → key ≡ length sector ∷ sector ++ name
key_parts sector name key h = grind (arith, h)

pub registered_is_named : (os : List CoapOption) (key : List ℕ) → list_all has_allowed_name os ≡ true
    → repeats_parameter os ≡ false → key_with (named (codes "d") os) (named (codes "ep") os) ≡ Some key
    → IsNamed key (given os ++ endpoint_type ∷ [])
registered_is_named os key allowed once h =
    by (named (codes "ep") os) refl (named (codes "d") os) refl (is_repeated (codes "ep") os) refl
    (is_repeated (codes "d") os) refl once h
  where
    by : (ep : Option (List ℕ)) → named (codes "ep") os ≡ ep → (d : Option (List ℕ)) → named (codes "d") os ≡ d
        → (two : Bool) → is_repeated (codes "ep") os ≡ two → (twice : Bool) → is_repeated (codes "d") os ≡ twice
        → (two || (twice || (is_repeated (codes "lt") os || is_repeated (codes "base") os))) ≡ false
        → key_with d ep ≡ Some key → IsNamed key (given os ++ endpoint_type ∷ [])
    by None e None f two i twice j once k = absurd cc
    by None e (Some s) f two i twice j once k = absurd cc
    by ep e d f true i twice j once k = absurd (true≢false once)
    by ep e d f false i true j once k = absurd (true≢false once)
    by (Some name) e None f false i false j once k = record {
      sector = [];
      name = name;
      key_is = key_parts [] name key k;
      ep = registered_named (codes "ep") exact_ep refl os allowed refl
          ∙ ap (map (quoted (codes "ep"))) (one_value (codes "ep") os name i e);
      d = inl (
        registered_named (codes "d") exact_d refl os allowed refl
            ∙ ap (map (quoted (codes "d"))) (no_values (codes "d") os f),
        refl,
      );
    }
    by (Some name) e (Some sector) f false i false j once k = record {
      sector = sector;
      name = name;
      key_is = key_parts sector name key k;
      ep = registered_named (codes "ep") exact_ep refl os allowed refl
          ∙ ap (map (quoted (codes "ep"))) (one_value (codes "ep") os name i e);
      d = inr (registered_named (codes "d") exact_d refl os allowed refl
          ∙ ap (map (quoted (codes "d"))) (one_value (codes "d") os sector j f));
    }

none_given : (p : List ℕ)
    → ((name : List ℕ) → is_allowed_name name ≡ true → is_same_name name p ≡ pointwise nat_eq name p)
    → is_own_name p ≡ false → (os : List CoapOption) → list_all has_allowed_name os ≡ true → is_none (named p os) ≡ true
    → attributes_named p (given os) ≡ []
none_given p exact other os allowed none =
    grind (arith, none, given_named p exact other os allowed, no_values p os)

pub updated_is_named : (os : List CoapOption) (key : List ℕ) (old : List Attribute)
    → list_all has_allowed_name os ≡ true → (is_none (named (codes "ep") os) && is_none (named (codes "d") os)) ≡ true
    → IsNamed key old → IsNamed key (merged old (given os))
updated_is_named os key old allowed none is =
    let parts = and_parts (is_none (named (codes "ep") os)) (is_none (named (codes "d") os)) none in
    let ep = merged_named (codes "ep") (given os) (none_given (codes "ep") exact_ep refl os allowed parts.0) old in
    let d = merged_named (codes "d") (given os) (none_given (codes "d") exact_d refl os allowed parts.1) old in
    record {
      sector = is.sector;
      name = is.name;
      key_is = is.key_is;
      ep = ep ∙ is.ep;
      d = by d is.d;
    }
  where
    by : attributes_named (codes "d") (merged old (given os)) ≡ attributes_named (codes "d") old
        → ((attributes_named (codes "d") old ≡ []) × (is.sector ≡ []))
        ⊎ (attributes_named (codes "d") old ≡ quoted (codes "d") is.sector ∷ [])
        → ((attributes_named (codes "d") (merged old (given os)) ≡ []) × (is.sector ≡ []))
        ⊎ (attributes_named (codes "d") (merged old (given os)) ≡ quoted (codes "d") is.sector ∷ [])
    by d (inl k) = inl (d ∙ k.0, k.1)
    by d (inr k) = inr (d ∙ k)
