-- The text of a lookup in a reached directory is in link format.
use Rattle.std.proofs.Common.{◌≡◌, ℕ, ◌<◌, ◌^◌, true, false, List, [], ◌∷◌, ◌++◌}
use Rattle.std.proofs.Common.{length, drop, map, filter, nat_lt, nat_le, codes}
use Rattle.std.proofs.Common.{Option, Some, None, unwrap_or, Result, Ok, Err, refl, ap, sym, subst, ◌∙◌, arith}
use Rattle.std.specs.List.{list_all, flat_map}
use Rattle.std.proofs.lemmas.List.Concat.{flat_map-cons}
use Rattle.coap_wire.specs.Message.{CoapOption, Message}
use Rattle.directory_links.specs.Characters.{is_target_char}
use Rattle.directory_links.specs.Links.{Link, is_attribute, is_link, Writes}
use Rattle.directory_links.specs.Reading.{links_from}
use Rattle.directory_links.proofs.ParseLaws.{from_ok}
use Rattle.directory_links.proofs.SoundLaws.{links_sound}
use Rattle.directory_registry.specs.IndexViews.{Each}
use Rattle.directory_registry.specs.Registrations.{RegistrationValue, RegistryValue, found, place_of}
use Rattle.directory_registry.specs.Registrations.{next_location}
use Rattle.directory_registry.specs.Registrations.{registered, attributed, updated}
use Rattle.directory_registry.specs.Registrations.{expired, removed}
use Rattle.directory_registry.specs.Matching.{CriterionValue, is_selected_endpoint}
use Rattle.directory_registry.specs.Lookups.{PageValue, ListingValue, started, endpoint_link}
use Rattle.directory_registry.specs.Results.{endpoints_found, links_of_registration, resources_found, part_of}
use Rattle.directory_registry.proofs.EntryLemmas.{each_filter}
use Rattle.directory_registry.proofs.ReachedLemmas.{Entry, each_without}
use Rattle.directory_registry.proofs.LookupLemmas.{endpoints_listed, resources_listed}
use Rattle.directory_core.specs.Requests.{named}
use Rattle.directory_core.specs.Parameters.{endpoint_type}
use Rattle.directory_core.specs.declared.refusal.Refusal.TheVariants as refusal
use Rattle.directory_core.specs.Changes.{refused, base_with, identified}
use Rattle.directory_core.specs.Changes.{attributes_in, registered_attributes, links_in, prepared, registering}
use Rattle.directory_core.specs.Changes.{renewing}
use Rattle.directory_core.specs.Changes.{updating, listed}
use Rattle.directory_core.specs.Replies.{DirectoryValue}
use Rattle.directory_core.specs.Endpoints.{ReachedDirectory}
use Rattle.directory_core.proofs.AttributeLemmas.{each_joined, each_merged, type_attribute}
use Rattle.directory_core.proofs.LinkFormatLemmas.{all_joined, all_split, base_target, IsWritable}
use Rattle.directory_core.proofs.LinkFormatLemmas.{endpoint_writable, links_writable}
use Rattle.directory_core.proofs.ReachedLemmas.{bound, test_holds, same_value, attributes_valid}
use Rattle.directory_core.proofs.ReachedLemmas.{registering_kept, updating_kept, reached_kept}

-- ---- parts of requests

base_holds : (o : Option (List ℕ)) (base : List ℕ) → base_with o ≡ Some base → list_all is_target_char base ≡ true
base_holds None base h = absurd cc
base_holds (Some b) base h = grind (arith, h, base_target b)

identified_base : (os : List CoapOption) (parts : List ℕ × ℕ × List ℕ) → identified os ≡ Ok parts
    → list_all is_target_char parts.2 ≡ true
unfolding identified
identified_base os parts h = grind (arith, h, base_holds (named (codes "base") os))

links_hold : (payload : List ℕ) (links : List Link) → links_in payload ≡ Ok links → list_all is_link links ≡ true
unfolding links_in
links_hold payload links h =
    let each = λ (read : List Link) (e : links_from payload ≡ Ok read).
    (links_sound payload read (from_ok payload read e)).each in
    grind (arith, h, each)

renewal_base : (os : List CoapOption) (parts : Option ℕ × Option (List ℕ)) (base : List ℕ) → renewing os ≡ Ok parts
    → list_all is_target_char base ≡ true → list_all is_target_char (unwrap_or parts.1 base) ≡ true
unfolding renewing
renewal_base os parts base h before = grind (arith, h, before, base_target)

-- ---- registrations that can be written

abbrev IsWritableEntry : Entry → Type 0
IsWritableEntry e = IsWritable e.1

prepared_writable : (now : ℕ) (m : Message) (made : List ℕ × RegistrationValue) (number : ℕ) → prepared now m ≡ Ok made
    → number < 2 ^ 64 → IsWritable (record made.1 { number = number })
unfolding prepared
prepared_writable now m made number h small =
    bound (identified m.options) _ made Goal h (λ parts i h2.
    bound (registered_attributes m.options) _ made Goal h2 (λ attributes j h3.
    bound (links_in m.payload) _ made Goal h3 (λ links l last.
    let this = same_value _ made last in
    bound (attributes_in m.options) _ attributes Goal j (λ list k few.
    let all = (test_holds (nat_le (length (list ++ endpoint_type ∷ [])) 64) refusal.Many (list ++ endpoint_type ∷ [])
    attributes few).1 in
    subst (λ (x : List ℕ × RegistrationValue). IsWritable (record x.1 { number = number })) this (record {
      small = small;
      base = identified_base m.options parts i;
      attributes = ap (list_all is_attribute) (sym all)
          ∙ each_joined list (endpoint_type ∷ []) (attributes_valid m.options list k) type_attribute;
      links = links_hold m.payload links l;
    })))))
  where
    Goal : Type 0
    Goal = IsWritable (record made.1 { number = number })

-- The registrations can be written, and the next location has a number of 64 bits.
record AreWritable (v : RegistryValue) : Type 0 where
  next : v.next < 2 ^ 64
  each : Each IsWritableEntry v.entries

found_writable : (es : List Entry) (key : List ℕ) (r : RegistrationValue) → found es key ≡ Some r
    → Each IsWritableEntry es → IsWritable r
found_writable [] key r there all = absurd cc
found_writable (e ∷ es) key r there all =
    grind (arith, there, all.0, λ (h : found es key ≡ Some r). found_writable es key r h all.1)

small_place : (v : RegistryValue) (key : List ℕ) (number : ℕ) → AreWritable v → place_of v key ≡ Some number
    → number < 2 ^ 64
small_place v key number is h =
    let small = λ (r : RegistrationValue) (e : found v.entries key ≡ Some r).
    (found_writable v.entries key r e is.each).small in
    grind (arith, h, is.next, small)

small_next : (next number : ℕ) → next < 2 ^ 64 → number < 2 ^ 64 → next_location next number < 2 ^ 64
small_next next number h k = grind (arith, h, k)

registering_next : (v : RegistryValue) (now : ℕ) (m : Message) (x : ℕ × RegistryValue) → registering v now m ≡ Ok x
    → AreWritable v → x.1.next < 2 ^ 64
unfolding registering registered
registering_next v now m x h is =
    let small = λ (key : List ℕ) (number : ℕ) (e : place_of v key ≡ Some number).
    small_next v.next number is.next (small_place v key number is e) in
    grind (arith, h, small)

updating_next : (v : RegistryValue) (now number : ℕ) (m : Message) → v.next ≡ (updating v now number m).1.next
unfolding updating updated attributed
updating_next v now number m = grind arith

registering_writable : (v : RegistryValue) (now : ℕ) (m : Message) (x : ℕ × RegistryValue) → registering v now m ≡ Ok x
    → AreWritable v → AreWritable x.1
registering_writable v now m x h is = record {
  next = registering_next v now m x h is;
  each = registering_kept IsWritableEntry v now m x
      (λ made number i place. prepared_writable now m made number i (small_place v made.0 number is place)) h is.each;
}

updating_writable : (v : RegistryValue) (now number : ℕ) (m : Message) → AreWritable v
    → AreWritable (updating v now number m).1
updating_writable v now number m is = record {
  next = subst (λ (n : ℕ). n < 2 ^ 64) (updating_next v now number m) is.next;
  each = updating_kept IsWritableEntry now m (λ parts list is key r writable. (
    record {
      small = writable.small;
      base = renewal_base m.options parts r.base is.renews writable.base;
      attributes = writable.attributes;
      links = writable.links;
    },
    record {
      small = writable.small;
      base = writable.base;
      attributes = each_merged r.attributes list writable.attributes (attributes_valid m.options list is.gives);
      links = writable.links;
    },
  )) v number is.each;
}

reached_writable : (d : DirectoryValue) → ReachedDirectory d → AreWritable d.registry
unfolding expired removed
reached_writable =
    reached_kept AreWritable registering_writable updating_writable
    (λ v number is. record { next = is.next; each = each_without IsWritableEntry number v.entries is.each })
    (λ v now is. record {
      next = is.next;
      each = each_filter _ (λ e. nat_lt now e.1.deadline) v.entries is.each;
    })
    (λ limit. record { next = omega arith; each = tt })

-- ---- results

endpoints_writable : (criteria : List CriterionValue) (es : List Entry) → Each IsWritableEntry es
    → list_all is_link (map endpoint_link (filter (is_selected_endpoint criteria) (map (λ e. e.1) es))) ≡ true
endpoints_writable criteria [] all = refl
endpoints_writable criteria (e ∷ es) all =
    grind (arith, endpoint_writable e.1 all.0, endpoints_writable criteria es all.1)

resources_writable : (criteria : List CriterionValue) (es : List Entry) → Each IsWritableEntry es
    → list_all is_link (flat_map (links_of_registration criteria) (map (λ e. e.1) es)) ≡ true
resources_writable criteria [] all = refl
resources_writable criteria (e ∷ es) all =
    rw flat_map-cons
    (all_joined is_link (links_of_registration criteria e.1)
    (flat_map (links_of_registration criteria) (map (λ e. e.1) es)) (links_writable criteria e.1 all.0)
    (resources_writable criteria es all.1))

part_writable : (page : PageValue) (links : List Link) → list_all is_link links ≡ true
    → list_all is_link (part_of page links) ≡ true
part_writable page links h =
    (all_split is_link page.count (drop page.skip links) (all_split is_link page.skip links h).1).0

pub endpoints_written : (d : DirectoryValue) → ReachedDirectory d → (criteria : List CriterionValue) (l : ListingValue)
    (page : PageValue) (limit : ℕ) (text : List ℕ)
    → (listed d.registry true criteria (started l page limit)).text ≡ Some text
    → Writes text (part_of page (endpoints_found criteria d.registry))
endpoints_written d reached criteria l page limit text h = record {
  each = part_writable page (endpoints_found criteria d.registry)
      (endpoints_writable criteria d.registry.entries (reached_writable d reached).each);
  text = sym (endpoints_listed d.registry criteria l page limit text h);
}

pub resources_written : (d : DirectoryValue) → ReachedDirectory d → (criteria : List CriterionValue) (l : ListingValue)
    (page : PageValue) (limit : ℕ) (text : List ℕ)
    → (listed d.registry false criteria (started l page limit)).text ≡ Some text
    → Writes text (part_of page (resources_found criteria d.registry))
resources_written d reached criteria l page limit text h = record {
  each = part_writable page (resources_found criteria d.registry)
      (resources_writable criteria d.registry.entries (reached_writable d reached).each);
  text = sym (resources_listed d.registry criteria l page limit text h);
}
