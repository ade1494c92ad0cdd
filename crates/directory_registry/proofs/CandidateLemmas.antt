-- The registrations that a lookup of one endpoint reads.
use Rattle.std.proofs.Common.{◌≡◌, ℕ, ◌+◌, ◌≤◌, ◌<◌, Bool, true, false, ◌&&◌, ◌||◌, List}
use Rattle.std.proofs.Common.{[], ◌∷◌, codes, filter, Some, is_some, refl, ap}
use Rattle.std.proofs.Common.{arith, nat_eq, nat_le}
use Rattle.std.specs.List.{list_all, list_any, fold, ends_with}
use Rattle.std.specs.Option.{option_map_or}
use Rattle.std.specs.Map.{lookup}
use Rattle.std.specs.Cmp.Lexicographic.{pointwise}
use Rattle.std.proofs.lemmas.Bool.{or_from, le-leb, and_parts}
use Rattle.std.proofs.lemmas.Bool.{not-true}
use Rattle.std.proofs.lemmas.Bool.Decides.{nat_tests}
use Rattle.directory_links.specs.Links.{AttributeValue, NoValue, ExtendedValue, TokenValue, QuotedValue, Attribute}
use Rattle.directory_links.specs.Links.{Link}
use Rattle.directory_registry.specs.Prelude.{CriterionValue, RegistrationValue, ListingValue, value_meets}
use Rattle.directory_registry.specs.Prelude.{given_value_meets}
use Rattle.directory_registry.specs.Prelude.{attribute_meets, link_meets, endpoint_meets, is_selected_link}
use Rattle.directory_registry.specs.Prelude.{is_selected_endpoint}
use Rattle.directory_registry.specs.Prelude.{offered_link, offered_links, offered_endpoint, counted}
use Rattle.directory_registry.specs.Prelude.{registration_of}
use Rattle.directory_registry.specs.Prelude.{name_label, has_label, agrees, link_agrees}
use Rattle.directory_registry.specs.Prelude.{label_with, registration_label, is_exact, exact_name}
use Rattle.directory_registry.specs.Prelude.{Each, is_number, is_labelled, IsFound}
use Rattle.directory_registry.specs.declared.registration.Stored.{Stored}
use Rattle.directory_registry.proofs.EntryLemmas.{same_list, each_map, Ascends, lookup_above}

-- ---- criteria that are not met

-- The criterion that asks for one name.
abbrev exact : List ℕ → CriterionValue
exact p = record { name = codes "ep"; pattern = p }

value_unmet : (p : List ℕ) (h : ℕ) (t : List ℕ) → ends_with nat_eq p (codes "*") ≡ false
    → nat_eq (name_label t) h ≡ true → (h ≡ name_label p → ⊥) → value_meets (exact p) t ≡ false
value_unmet p h t star e other = grind (arith, star, e, other, same_list t p)

given_unmet : (p : List ℕ) (h : ℕ) (v : AttributeValue) → ends_with nat_eq p (codes "*") ≡ false → has_label h v ≡ true
    → (h ≡ name_label p → ⊥) → given_value_meets (exact p) v ≡ false
given_unmet p h NoValue star e other = value_unmet p h [] star e other
given_unmet p h (ExtendedValue t) star e other = refl
given_unmet p h (TokenValue t) star e other = value_unmet p h t star e other
given_unmet p h (QuotedValue t) star e other = value_unmet p h t star e other

attribute_unmet : (p : List ℕ) (h : ℕ) (a : Attribute) → ends_with nat_eq p (codes "*") ≡ false → agrees h a ≡ true
    → (h ≡ name_label p → ⊥) → attribute_meets (exact p) a ≡ false
attribute_unmet p h a star e other =
    grind (arith, e, λ (k : has_label h a.value ≡ true). given_unmet p h a.value star k other)

attributes_unmet : (p : List ℕ) (h : ℕ) (list : List Attribute) → ends_with nat_eq p (codes "*") ≡ false
    → list_all (agrees h) list ≡ true → (h ≡ name_label p → ⊥) → list_any (attribute_meets (exact p)) list ≡ false
attributes_unmet p h [] star e other = refl
attributes_unmet p h (a ∷ list) star e other =
    let parts = and_parts (agrees h a) (list_all (agrees h) list) e in
    or_from (attribute_meets (exact p) a) (list_any (attribute_meets (exact p)) list)
    (attribute_unmet p h a star parts.0 other) (attributes_unmet p h list star parts.1 other)

links_unmet : (p : List ℕ) (h : ℕ) (base : List ℕ) (ls : List Link) → ends_with nat_eq p (codes "*") ≡ false
    → list_all (link_agrees h) ls ≡ true → (h ≡ name_label p → ⊥) → list_any (link_meets (exact p) base) ls ≡ false
links_unmet p h base [] star e other = refl
links_unmet p h base (l ∷ ls) star e other =
    let parts = and_parts (link_agrees h l) (list_all (link_agrees h) ls) e in
    or_from (link_meets (exact p) base l) (list_any (link_meets (exact p) base) ls)
    (attributes_unmet p h l.attributes star parts.0 other) (links_unmet p h base ls star parts.1 other)

-- A criterion that asks for one name.
exact_is : (c : CriterionValue) (p : List ℕ) → is_exact c ≡ true → c.pattern ≡ p
    → (c ≡ exact p) × (ends_with nat_eq p (codes "*") ≡ false)
exact_is c p e i =
    let parts = and_parts (pointwise nat_eq c.name (codes "ep")) _ e in
    let name = same_list c.name (codes "ep") parts.0 in
    (λ j. record { name = name j; pattern = i j }, rw i at (not-true _ parts.1))

-- A test of all criteria fails where it fails at the one that asks for this name.
all_fail : (test : CriterionValue → Bool) (p : List ℕ)
    → (ends_with nat_eq p (codes "*") ≡ false → test (exact p) ≡ false) → (cs : List CriterionValue)
    → exact_name cs ≡ Some p → list_all test cs ≡ false
all_fail test p fails [] h = absurd cc
all_fail test p fails (c ∷ cs) h =
    grind (arith, exact_is c p, fails, h, λ (k : exact_name cs ≡ Some p). all_fail test p fails cs k)

-- Each `ep` of a registration has its label, unless this is 0.
label_agrees : (r : RegistrationValue) → (registration_label r ≡ 0 → ⊥)
    → (list_all (agrees (registration_label r)) r.attributes && list_all (link_agrees (registration_label r)) r.links) ≡
    true
unfolding label_with
label_agrees r other = grind (arith, other)

not_selected_endpoint : (cs : List CriterionValue) (p : List ℕ) (r : RegistrationValue) → exact_name cs ≡ Some p
    → (registration_label r ≡ 0 → ⊥) → (registration_label r ≡ name_label p → ⊥) → is_selected_endpoint cs r ≡ false
not_selected_endpoint cs p r requested named other =
    let parts = and_parts (list_all (agrees (registration_label r)) r.attributes)
    (list_all (link_agrees (registration_label r)) r.links) (label_agrees r named) in
    all_fail (λ c. endpoint_meets c r || list_any (link_meets c r.base) r.links) p
    (λ star. or_from (endpoint_meets (exact p) r) (list_any (link_meets (exact p) r.base) r.links)
    (attributes_unmet p (registration_label r) r.attributes star parts.0 other)
    (links_unmet p (registration_label r) r.base r.links star parts.1 other))
    cs requested

not_selected_link : (cs : List CriterionValue) (p : List ℕ) (r : RegistrationValue) (l : Link) → exact_name cs ≡ Some p
    → (registration_label r ≡ 0 → ⊥) → (registration_label r ≡ name_label p → ⊥)
    → link_agrees (registration_label r) l ≡ true → is_selected_link cs r l ≡ false
not_selected_link cs p r l requested named other own =
    let parts = and_parts (list_all (agrees (registration_label r)) r.attributes)
    (list_all (link_agrees (registration_label r)) r.links) (label_agrees r named) in
    all_fail (λ c. link_meets c r.base l || endpoint_meets c r) p
    (λ star. or_from (link_meets (exact p) r.base l) (endpoint_meets (exact p) r)
    (attributes_unmet p (registration_label r) l.attributes star own other)
    (attributes_unmet p (registration_label r) r.attributes star parts.0 other))
    cs requested

no_links : (cs : List CriterionValue) (p : List ℕ) (r : RegistrationValue) (ls : List Link) (v : ListingValue)
    → exact_name cs ≡ Some p → (registration_label r ≡ 0 → ⊥) → (registration_label r ≡ name_label p → ⊥)
    → list_all (link_agrees (registration_label r)) ls ≡ true → fold (offered_link cs r) v ls ≡ v
no_links cs p r [] v requested named other all = refl
no_links cs p r (l ∷ ls) v requested named other all =
    let parts = and_parts (link_agrees (registration_label r) l) _ all in
    rw (not_selected_link cs p r l requested named other parts.0) (no_links cs p r ls v requested named other parts.1)

-- A registration with another label adds nothing to a lookup of one endpoint.
pub counted_unmet : (endpoints : Bool) (cs : List CriterionValue) (p : List ℕ) (r : RegistrationValue)
    (v : ListingValue) → exact_name cs ≡ Some p → (registration_label r ≡ 0 → ⊥)
    → (registration_label r ≡ name_label p → ⊥) → counted endpoints cs v r ≡ v
unfolding offered_endpoint offered_links
counted_unmet true cs p r v requested named other = rw (not_selected_endpoint cs p r requested named other)
counted_unmet false cs p r v requested named other =
    no_links cs p r r.links v requested named other
    (and_parts (list_all (agrees (registration_label r)) r.attributes)
    (list_all (link_agrees (registration_label r)) r.links) (label_agrees r named)).1

-- The same for a registration that is found by its label.
pub found_unmet : (endpoints : Bool) (cs : List CriterionValue) (p : List ℕ) (label : ℕ) (ls : List (ℕ × ℕ))
    (e : ℕ × Stored) → label ≡ name_label p → exact_name cs ≡ Some p → IsFound ls e → is_labelled ls label e.0 ≡ false
    → is_labelled ls 0 e.0 ≡ false → (w : ListingValue) → counted endpoints cs w (registration_of e.1.registration) ≡ w
found_unmet endpoints cs p label ls e is requested found none any w =
    let there : is_labelled ls (registration_label (registration_of e.1.registration)) e.0 ≡ true =
    ap is_some found.label in
    counted_unmet endpoints cs p (registration_of e.1.registration) w requested
    (λ i. absurd (cc (there, any))) (λ i. absurd (cc (there, none, is)))

-- ---- the entries from a number on

-- The entries from this number on.
abbrev pub from_number : ℕ → List (ℕ × Stored) → List (ℕ × Stored)
from_number n es = filter (λ e. nat_le n e.0) es

pub from_all : (k : ℕ) (es : List (ℕ × Stored)) → Each (λ (e : ℕ × Stored). k ≤ e.0) es → from_number k es ≡ es
from_all k [] all = refl
from_all k (e ∷ es) all = rw (le-leb k e.0 all.0, from_all k es all.1)

each_any : (es : List (ℕ × Stored)) → Each (λ (e : ℕ × Stored). 0 ≤ e.0) es
each_any [] = tt
each_any (e ∷ es) = (omega arith, each_any es)

pub from_zero : (es : List (ℕ × Stored)) → from_number 0 es ≡ es
from_zero es = from_all 0 es (each_any es)

module _ {V : Type 0} (g : V → Stored → V) where
  abbrev pub over : V → List (ℕ × Stored) → V
  over v es = fold (λ w e. g w e.1) v es

  abbrev pub visited : ℕ → List (ℕ × Stored) → V → V
  visited n es v = option_map_or (λ s. g v s) (lookup (is_number n) es) v

  -- The entries from `k` on are the one at `n`, and those after it, if the others before `n` add nothing.
  pub next_visited : (k n : ℕ) → k ≤ n → (es : List (ℕ × Stored)) → Ascends es
      → Each (λ (e : ℕ × Stored). k ≤ e.0 → e.0 < n → (w : V) → g w e.1 ≡ w) es → (v : V)
      → over v (from_number k es) ≡ over (visited n es v) (from_number (n + 1) es)
  next_visited k n h [] up nothing v = refl
  next_visited k n h (e ∷ es) up nothing v =
      let above = λ (m : ℕ) (i : m ≤ e.0 + 1). from_all m es (each_map _ _ (λ y j. omega arith) es up.0) in
      grind (
        arith,
        nat_tests,
        h,
        λ (i : k ≤ e.0) (j : e.0 < n). nothing.0 i j v,
        above k,
        above (n + 1),
        λ (i : n ≤ e.0). lookup_above n es (each_map _ _ (λ y j. omega arith) es up.0),
        λ (i : e.0 < n). next_visited k n h es up.1 nothing.1 v,
      )

  -- Entries that add nothing.
  pub none_visited : (k : ℕ) (es : List (ℕ × Stored)) → Each (λ (e : ℕ × Stored). k ≤ e.0 → (w : V) → g w e.1 ≡ w) es
      → (v : V) → over v (from_number k es) ≡ v
  none_visited k [] nothing v = refl
  none_visited k (e ∷ es) nothing v =
      grind (arith, λ (i : k ≤ e.0). nothing.0 i v, none_visited k es nothing.1 v)
