-- The links of a lookup can be written in link format.
use Rattle.std.proofs.Common.{◌≡◌, ℕ, ◌+◌, ◌<◌, ◌^◌, Bool, true, false, ◌&&◌, ◌||◌, List, [], ◌∷◌, ◌++◌}
use Rattle.std.proofs.Common.{length, take, drop, map, filter, codes, nat_eq, nat_lt, nat_le, get_or, Option, Some}
use Rattle.std.proofs.Common.{None}
use Rattle.std.proofs.Common.{inl, inr, refl, ap, sym, ◌∙◌, arith, true≢false, drop-cons, add-one}
use Rattle.std.specs.List.{list_all, list_any, position, starts_with}
use Rattle.std.specs.Option.{option_map_or}
use Rattle.std.specs.Fmt.{decimal}
use Rattle.std.specs.Int.Digits.{digits_of, AllBelowBase}
use Rattle.std.proofs.lemmas.Bool.{and_parts, and_from, cases_lt, eqb-true, ne_eqb}
use Rattle.std.proofs.lemmas.Fmt.{decimal_digit, decimal-digits_of}
use Rattle.std.proofs.lemmas.Int.Digits.{all_below_base_digits_of}
use Rattle.std.proofs.lemmas.List.{append-nil, take-append-drop}
use Rattle.std.proofs.lemmas.List.Folds.{list_all-append}
use Rattle.std.proofs.lemmas.List.Quantifiers.{position-Some}
use Rattle.directory_links.specs.Characters.{is_name_char, is_target_char}
use Rattle.directory_links.specs.Links.{AttributeValue, NoValue, ExtendedValue, TokenValue, QuotedValue, Attribute}
use Rattle.directory_links.specs.Links.{Link}
use Rattle.directory_links.specs.Links.{is_parmname, is_quoted_text, is_value, is_attribute, is_link}
use Rattle.directory_registry.specs.Registrations.{RegistrationValue}
use Rattle.directory_registry.specs.Matching.{CriterionValue, resolved, location, is_selected_link}
use Rattle.directory_registry.specs.Lookups.{resolved_value, resolved_attribute, resolved_link, endpoint_link}
use Rattle.directory_registry.specs.Results.{links_of_registration}
use Rattle.directory_core.specs.Parameters.{is_scheme_char, is_scheme, is_authority_char, is_authority, is_base}

-- ---- lists whose elements pass a test

module _ {X : Type 0} (p : X → Bool) where
  pub all_joined : (xs ys : List X) → list_all p xs ≡ true → list_all p ys ≡ true → list_all p (xs ++ ys) ≡ true
  all_joined xs ys h k = list_all-append p xs ys ∙ and_from (list_all p xs) (list_all p ys) h k

  pub all_split : (n : ℕ) (xs : List X) → list_all p xs ≡ true
      → (list_all p (take n xs) ≡ true) × (list_all p (drop n xs) ≡ true)
  all_split n xs h =
      and_parts (list_all p (take n xs)) (list_all p (drop n xs))
      (sym (list_all-append p (take n xs) (drop n xs)) ∙ ap (list_all p) (take-append-drop n xs) ∙ h)

  pub all_filtered : (keep : X → Bool) (xs : List X) → list_all p xs ≡ true → list_all p (filter keep xs) ≡ true
  all_filtered keep [] h = refl
  all_filtered keep (x ∷ xs) h = grind (arith, h, all_filtered keep xs)

all_weaker : {X : Type 0} → (p q : X → Bool) → ((x : X) → p x ≡ true → q x ≡ true) → (xs : List X)
    → list_all p xs ≡ true → list_all q xs ≡ true
all_weaker p q follows [] h = refl
all_weaker p q follows (x ∷ xs) h = grind (arith, h, follows x, all_weaker p q follows xs)

all_mapped : {X Y : Type 0} → (p : X → Bool) (q : Y → Bool) (f : X → Y) → ((x : X) → p x ≡ true → q (f x) ≡ true)
    → (xs : List X) → list_all p xs ≡ true → list_all q (map f xs) ≡ true
all_mapped p q f follows [] h = refl
all_mapped p q f follows (x ∷ xs) h = grind (arith, h, follows x, all_mapped p q f follows xs)

-- ---- characters of a URI

is_char : (k c : ℕ) → is_target_char k ≡ true → nat_eq c k ≡ true → is_target_char c ≡ true
is_char k c there e = rw (eqb-true c k e) there

not_char : (k c : ℕ) → is_target_char k ≡ false → is_target_char c ≡ true → nat_eq c k ≡ false
not_char k c none h = ne_eqb c k (λ i. absurd (cc (none, rw i at h)))

slash_target : (c : ℕ) → nat_eq 47 c ≡ true → is_target_char c ≡ true
unfolding is_target_char
slash_target c e = grind (arith, e)

colon_target : (c : ℕ) → nat_eq c 58 ≡ true → is_target_char c ≡ true
unfolding is_target_char
colon_target c e = ap is_target_char (eqb-true c 58 e)

scheme_target : (c : ℕ) → is_scheme_char c ≡ true → is_target_char c ≡ true
unfolding is_target_char
scheme_target c h = by (nat_le 48 c && nat_le c 57) refl (nat_le 65 c && nat_le c 90) refl
    (nat_le 97 c && nat_le c 122) refl (nat_eq c 43) refl (nat_eq c 45) refl (nat_eq c 46) refl h
  where
    by : (digit : Bool) → (nat_le 48 c && nat_le c 57) ≡ digit → (capital : Bool)
        → (nat_le 65 c && nat_le c 90) ≡ capital
        → (small : Bool) → (nat_le 97 c && nat_le c 122) ≡ small → (plus : Bool) → nat_eq c 43 ≡ plus
        → (minus : Bool) → nat_eq c 45 ≡ minus → (dot : Bool) → nat_eq c 46 ≡ dot
        → (digit || (capital || (small || (plus || (minus || dot))))) ≡ true → is_target_char c ≡ true
    by true d capital u small l plus p minus m dot o k = rw d refl
    by false d true u small l plus p minus m dot o k = rw (d, u) refl
    by false d false u true l plus p minus m dot o k = rw (d, u, l) refl
    by false d false u false l true p minus m dot o k = is_char 43 c refl p
    by false d false u false l false p true m dot o k = is_char 45 c refl m
    by false d false u false l false p false m true o k = is_char 46 c refl o
    by false d false u false l false p false m false o k = absurd (true≢false (sym k))

authority_target : (c : ℕ) → is_authority_char c ≡ true → is_target_char c ≡ true
authority_target c h = grind (arith, h)

slashes_target : (r : List ℕ) → starts_with nat_eq r (codes "//") ≡ true
    → list_all is_authority_char (drop 2 r) ≡ true → list_all is_target_char r ≡ true
slashes_target [] s h = refl
slashes_target (a ∷ []) s h = grind (arith, s)
slashes_target (a ∷ b ∷ r) s h =
    grind (arith, s, slash_target a, slash_target b, all_weaker is_authority_char is_target_char authority_target r h)

pub base_target : (b : List ℕ) → is_base b ≡ true → list_all is_target_char b ≡ true
base_target b h = by (position (λ c. nat_eq c 58) b) refl h
  where
    by : (o : Option ℕ) → position (λ c. nat_eq c 58) b ≡ o
        → (option_map_or (λ i. is_scheme (take i b) && is_authority (drop (i + 1) b)) o false) ≡ true
        → list_all is_target_char b ≡ true
    by None e k = absurd (true≢false (sym k))
    by (Some i) e k =
        let at = position-Some (λ c. nat_eq c 58) b i 0 e in
        let parts = and_parts (is_scheme (take i b)) (is_authority (drop (i + 1) b)) k in
        let scheme = (and_parts (nat_lt 0 (length (take i b))) (list_all is_scheme_char (take i b)) parts.0).1 in
        let rest = drop (i + 1) b in
        let authority = (and_parts (nat_lt 2 (length rest))
        (starts_with nat_eq rest (codes "//") && list_all is_authority_char (drop 2 rest)) parts.1).1 in
        let tail = and_parts (starts_with nat_eq rest (codes "//"))
        (list_all is_authority_char (drop 2 rest)) authority in
        let after = slashes_target rest tail.0 tail.1 in
        ap (list_all is_target_char) (sym (take-append-drop i b))
        ∙ all_joined is_target_char (take i b) (drop i b)
        (all_weaker is_scheme_char is_target_char scheme_target (take i b) scheme)
        (ap (list_all is_target_char) (drop-cons b i 0 at.0 ∙ ap (λ (n : ℕ). get_or b i 0 ∷ drop n b) (sym (add-one i)))
        ∙ and_from (is_target_char (get_or b i 0)) (list_all is_target_char rest)
        (colon_target (get_or b i 0) at.1) after)

-- ---- characters of a quoted string

-- A character that is one of a list is above a bound of all.
any_from : (low : ℕ) (c : ℕ) (cs : List ℕ) → list_all (λ x. nat_le low x) cs ≡ true
    → list_any (λ x. nat_eq x c) cs ≡ true → nat_le low c ≡ true
any_from low c [] all h = absurd cc
any_from low c (x ∷ cs) all h = grind (arith, all, h, any_from low c cs)

visible : (c : ℕ) → is_target_char c ≡ true → nat_le 32 c ≡ true
unfolding is_target_char
visible c h =
    by (nat_le 48 c) refl (nat_le c 57) (nat_le 65 c) refl (nat_le c 90) (nat_le 97 c) refl (nat_le c 122) h
  where
    others : Bool
    others = list_any (λ x. nat_eq x c) (codes "-._~:/?#[]@!$&'()*+,;=%")

    by : (a : Bool) → nat_le 48 c ≡ a → (a2 : Bool) → (b : Bool) → nat_le 65 c ≡ b → (b2 : Bool) → (d : Bool)
        → nat_le 97 c ≡ d → (d2 : Bool)
        → (((a && a2) || ((b && b2) || (d && d2))) || others) ≡ true → nat_le 32 c ≡ true
    by true e a2 b f b2 d g d2 k = grind (arith, e)
    by false e a2 true f b2 d g d2 k = grind (arith, f)
    by false e a2 false f b2 true g d2 k = grind (arith, g)
    by false e a2 false f b2 false g d2 k = any_from 32 c (codes "-._~:/?#[]@!$&'()*+,;=%") refl k

delete_free : (c : ℕ) → is_target_char c ≡ true → nat_eq c 127 ≡ false
unfolding is_target_char
delete_free c h = not_char 127 c refl h

quote_free : (c : ℕ) → is_target_char c ≡ true → nat_eq c 34 ≡ false
unfolding is_target_char
quote_free c h = not_char 34 c refl h

backslash_free : (c : ℕ) → is_target_char c ≡ true → nat_eq c 92 ≡ false
unfolding is_target_char
backslash_free c h = not_char 92 c refl h

-- A URI before the text of a quoted string changes nothing.
quoted_after : (b q : List ℕ) → list_all is_target_char b ≡ true
    → is_quoted_text false (b ++ q) ≡ is_quoted_text false q
unfolding is_quoted_text
quoted_after [] q h = refl
quoted_after (c ∷ b) q h =
    let parts = and_parts (is_target_char c) (list_all is_target_char b) h in
    rw (visible c parts.0, delete_free c parts.0, quote_free c parts.0, backslash_free c parts.0)
    (quoted_after b q parts.1)

quoted_uri : (b : List ℕ) → list_all is_target_char b ≡ true → is_quoted_text false b ≡ true
unfolding is_quoted_text
quoted_uri b h = sym (ap (is_quoted_text false) (append-nil b)) ∙ quoted_after b [] h

-- ---- links that a lookup writes

resolved_quoted : (base q : List ℕ) → list_all is_target_char base ≡ true → is_quoted_text false q ≡ true
    → is_quoted_text false (resolved base q) ≡ true
resolved_quoted base q h k = grind (arith, k, quoted_after base q h)

resolved_target : (base t : List ℕ) → list_all is_target_char base ≡ true → list_all is_target_char t ≡ true
    → list_all is_target_char (resolved base t) ≡ true
resolved_target base t h k = grind (arith, k, all_joined is_target_char base t h k)

value_resolved : (base : List ℕ) (v : AttributeValue) → list_all is_target_char base ≡ true → is_value v ≡ true
    → is_value (resolved_value base v) ≡ true
value_resolved base NoValue h k = k
value_resolved base (ExtendedValue t) h k = k
value_resolved base (TokenValue t) h k = k
value_resolved base (QuotedValue q) h k = resolved_quoted base q h k

attribute_resolved : (base : List ℕ) → list_all is_target_char base ≡ true → (a : Attribute) → is_attribute a ≡ true
    → is_attribute (resolved_attribute base a) ≡ true
attribute_resolved base h a k = grind (arith, k, value_resolved base a.value h)

link_resolved : (base : List ℕ) → list_all is_target_char base ≡ true → (l : Link) → is_link l ≡ true
    → is_link (resolved_link base l) ≡ true
link_resolved base h l k =
    grind (
      arith,
      k,
      resolved_target base l.target h,
      all_mapped is_attribute is_attribute (resolved_attribute base) (attribute_resolved base h) l.attributes,
    )

digit_target : (d : ℕ) → d < 10 → is_target_char (48 + d) ≡ true
unfolding is_target_char
digit_target d h = grind (arith, h)

digits_target : (ds : List ℕ) → AllBelowBase 10 ds → list_all is_target_char (map (λ d. 48 + d) ds) ≡ true
digits_target [] all = refl
digits_target (d ∷ ds) all = grind (arith, digit_target d all.0, digits_target ds all.1)

number_target : (n : ℕ) → n < 2 ^ 64 → list_all is_target_char (decimal n) ≡ true
number_target n h = elim (cases_lt 0 n) [
  | inl more ↦ rw (decimal-digits_of n more h)
      (digits_target (digits_of 10 n) (all_below_base_digits_of 10 n (omega arith)))
  | inr none ↦ rw (decimal_digit n (omega arith)) (grind (arith, digit_target n (omega arith)))
]

base_named : is_parmname (codes "base") ≡ true
unfolding is_name_char
base_named = refl

prefix_target : list_all is_target_char (codes "/rd/") ≡ true
unfolding is_target_char
prefix_target = refl

-- A lookup writes the registration, its base URI and its links in link format.
pub record IsWritable (r : RegistrationValue) : Type 0 where
  pub small : r.number < 2 ^ 64
  pub base : list_all is_target_char r.base ≡ true
  pub attributes : list_all is_attribute r.attributes ≡ true
  pub links : list_all is_link r.links ≡ true

pub endpoint_writable : (r : RegistrationValue) → IsWritable r → is_link (endpoint_link r) ≡ true
endpoint_writable r is =
    and_from (list_all is_target_char (location r.number)) (list_all is_attribute (endpoint_link r).attributes)
    (all_joined is_target_char (codes "/rd/") (decimal r.number) prefix_target (number_target r.number is.small))
    (all_mapped is_attribute is_attribute (resolved_attribute r.base) (attribute_resolved r.base is.base)
    (record { name = codes "base"; value = QuotedValue r.base } ∷ r.attributes)
    (and_from (is_parmname (codes "base") && is_quoted_text false r.base) (list_all is_attribute r.attributes)
    (and_from (is_parmname (codes "base")) (is_quoted_text false r.base) base_named (quoted_uri r.base is.base))
    is.attributes))

pub links_writable : (criteria : List CriterionValue) (r : RegistrationValue) → IsWritable r
    → list_all is_link (links_of_registration criteria r) ≡ true
links_writable criteria r is =
    all_mapped is_link is_link (resolved_link r.base) (link_resolved r.base is.base)
    (filter (is_selected_link criteria r) r.links) (all_filtered is_link (is_selected_link criteria r) r.links is.links)
