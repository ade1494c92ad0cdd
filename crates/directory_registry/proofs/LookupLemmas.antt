-- The text of the results of a lookup.
use Rattle.std.proofs.Common.{◌≡◌, ℕ, suc, zero, ◌+◌, ◌*◌, cond, List, [], ◌∷◌, ◌++◌, take}
use Rattle.std.proofs.Common.{drop, map, filter, nat_le, Option, Some, None, refl, sym, ◌∙◌, arith}
use Rattle.std.proofs.Common.{append_assoc}
use Rattle.std.specs.List.{flat_map, fold}
use Rattle.std.proofs.lemmas.List.{append-nil}
use Rattle.directory_links.specs.Links.{Link, link_text, links_text, more_links_text}
use Rattle.directory_registry.specs.Prelude.{ListingValue, PageValue, pushed, with_bytes, begun, offered, separator}
use Rattle.directory_registry.specs.Prelude.{started}
use Rattle.directory_registry.specs.Prelude.{CriterionValue, RegistrationValue, RegistryValue, registrations}
use Rattle.directory_registry.specs.Prelude.{is_selected_endpoint, is_selected_link, endpoint_link, resolved_link}
use Rattle.directory_registry.specs.Prelude.{offered_endpoint, offered_link, offered_links}
use Rattle.directory_registry.specs.Prelude.{endpoints_found, links_of_registration, resources_found, part_of}

-- A text with more links.
abbrev joined : List ℕ → List Link → List ℕ
joined [] links = links_text links
joined (b ∷ t) links = (b ∷ t) ++ more_links_text links

-- The listing after all these links.
abbrev after : ListingValue → List Link → ListingValue
after v links = fold (λ (w : ListingValue) (l : Link). offered w (link_text l)) v links

no_links : (t : List ℕ) → t ≡ joined t []
unfolding more_links_text
no_links [] = refl
no_links (b ∷ t) = sym (append-nil (b ∷ t))

none_left : (n k : ℕ) → take {A = Link} n (drop k []) ≡ []
none_left zero zero = refl
none_left zero (suc k) = refl
none_left (suc n) zero = refl
none_left (suc n) (suc k) = refl

one_more : (t : List ℕ) (l : Link) (links : List Link)
    → joined ((t ++ separator (Some t)) ++ link_text l) links ≡ joined t (l ∷ links)
unfolding more_links_text
one_more [] l links = refl
one_more (b ∷ t) l links =
    append_assoc ((b ∷ t) ++ 44 ∷ []) (link_text l) (more_links_text links)
    ∙ append_assoc (b ∷ t) (44 ∷ []) (link_text l ++ more_links_text links)

-- A text that is too long stays so.
none_offered : (v : ListingValue) (bytes : List ℕ) → v.text ≡ None → (offered v bytes).text ≡ None
unfolding offered begun with_bytes
none_offered v bytes e = grind (arith, e)

none_stays : (links : List Link) (v : ListingValue) → v.text ≡ None → (after v links).text ≡ None
none_stays [] v e = e
none_stays (l ∷ links) v e = none_stays links (offered v (link_text l)) (none_offered v (link_text l) e)

-- A listing of these numbers and this text.
abbrev listing : ℕ → ℕ → ℕ → ℕ → Option (List ℕ) → ListingValue
listing skip left capacity limit text =
    record { skip = skip; left = left; capacity = capacity; limit = limit; text = text }

skipped : (k left capacity limit : ℕ) (text : Option (List ℕ)) (bytes : List ℕ)
    → offered (listing (suc k) left capacity limit text) bytes ≡ listing k left capacity limit text
unfolding offered begun
skipped k left capacity limit text bytes = grind arith

passed : (capacity limit : ℕ) (text : Option (List ℕ)) (bytes : List ℕ)
    → offered (listing zero zero capacity limit text) bytes ≡ listing zero zero capacity limit text
unfolding offered begun
passed capacity limit text bytes = refl

written : (n capacity limit : ℕ) (text : Option (List ℕ)) (bytes : List ℕ)
    → offered (listing zero (suc n) capacity limit text) bytes ≡ listing zero n capacity limit
    (pushed limit (pushed limit text (separator text)) bytes)
unfolding offered begun with_bytes
written n capacity limit text bytes = grind arith

listing_text : (links : List Link) (skip left capacity limit : ℕ) (t out : List ℕ)
    → (after (listing skip left capacity limit (Some t)) links).text ≡ Some out
    → out ≡ joined t (take left (drop skip links))
listing_text [] skip left capacity limit t out h =
    let same : out ≡ t = cc in
    rw (same, none_left left skip) (no_links t)
listing_text (l ∷ links) (suc k) left capacity limit t out h =
    grind (
      arith,
      h,
      skipped k left capacity limit (Some t) (link_text l),
      listing_text links k left capacity limit t out,
    )
listing_text (l ∷ links) zero zero capacity limit t out h =
    grind (arith, h, passed capacity limit (Some t) (link_text l), listing_text links zero zero capacity limit t out)
listing_text (l ∷ links) zero (suc n) capacity limit t out h =
    grind (
      arith,
      written n capacity limit (Some t) (link_text l),
      h,
      one_more t l (take n links),
      none_stays links (listing zero n capacity limit None) refl,
      listing_text links zero n capacity limit ((t ++ separator (Some t)) ++ link_text l) out,
    )

pub text_of_links : (links : List Link) (v : ListingValue) (page : PageValue) (limit : ℕ) (out : List ℕ)
    → (after (started v page limit) links).text ≡ Some out → out ≡ links_text (part_of page links)
text_of_links links v page limit out h =
    listing_text links page.skip page.count v.capacity (cond (nat_le limit v.capacity) limit v.capacity) [] out h

-- The results of the first pages, and those of the next one.
pub next_page : (n m : ℕ) (links : List Link) → take n links ++ take m (drop n links) ≡ take (n + m) links
next_page zero m links = grind arith
next_page (suc n) m [] = none_left m zero ∙ sym (none_left (suc n + m) zero)
next_page (suc n) m (l ∷ links) =
    let sum : suc (n + m) ≡ suc n + m = omega arith in
    rw (next_page n m links, ← sum)

pub pages : (links : List Link) (page count : ℕ)
    → take (page * count) links
    ++ part_of (record { skip = page * count; count = count }) links ≡ take (page * count + count) links
pages links page count = next_page (page * count) count links

-- ---- the results

endpoints_offered : (criteria : List CriterionValue) (rs : List RegistrationValue) (v : ListingValue)
    → fold (offered_endpoint criteria) v rs ≡ after v (map endpoint_link (filter (is_selected_endpoint criteria) rs))
unfolding offered_endpoint
endpoints_offered criteria [] v = refl
endpoints_offered criteria (r ∷ rs) v =
    grind (
      arith,
      endpoints_offered criteria rs (offered v (link_text (endpoint_link r))),
      endpoints_offered criteria rs v,
    )

links_offered : (criteria : List CriterionValue) (r : RegistrationValue) (links : List Link) (v : ListingValue)
    → fold (offered_link criteria r) v links ≡ after v
    (map (resolved_link r.base) (filter (is_selected_link criteria r) links))
links_offered criteria r [] v = refl
links_offered criteria r (l ∷ links) v =
    grind (
      arith,
      links_offered criteria r links (offered v (link_text (resolved_link r.base l))),
      links_offered criteria r links v,
    )

after_both : (xs ys : List Link) (v : ListingValue) → after (after v xs) ys ≡ after v (xs ++ ys)
after_both [] ys v = refl
after_both (x ∷ xs) ys v = after_both xs ys (offered v (link_text x))

resources_offered : (criteria : List CriterionValue) (rs : List RegistrationValue) (v : ListingValue)
    → fold (offered_links criteria) v rs ≡ after v (flat_map (links_of_registration criteria) rs)
unfolding offered_links
resources_offered criteria [] v = refl
resources_offered criteria (r ∷ rs) v =
    rw (links_offered criteria r r.links v, resources_offered criteria rs)
    (after_both (links_of_registration criteria r) (flat_map (links_of_registration criteria) rs) v)

pub endpoints_listed : (v : RegistryValue) (criteria : List CriterionValue) (l : ListingValue) (page : PageValue)
    (limit : ℕ) (text : List ℕ)
    → (fold (offered_endpoint criteria) (started l page limit) (registrations v)).text ≡ Some text
    → text ≡ links_text (part_of page (endpoints_found criteria v))
endpoints_listed v criteria l page limit text h =
    text_of_links (endpoints_found criteria v) l page limit text (rw endpoints_offered at h)

pub resources_listed : (v : RegistryValue) (criteria : List CriterionValue) (l : ListingValue) (page : PageValue)
    (limit : ℕ) (text : List ℕ)
    → (fold (offered_links criteria) (started l page limit) (registrations v)).text ≡ Some text
    → text ≡ links_text (part_of page (resources_found criteria v))
resources_listed v criteria l page limit text h =
    text_of_links (resources_found criteria v) l page limit text (rw resources_offered at h)
