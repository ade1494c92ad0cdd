-- The registration that is found after a call.
use Rattle.std.proofs.Common.{◌≡◌, ◌≢◌, ℕ, ◌≤◌, ◌<◌, Bool, true, false, cond, List, [], ◌∷◌, filter, nat_eq, nat_lt}
use Rattle.std.proofs.Common.{Option, Some, None, refl, ap, ◌∙◌, arith}
use Rattle.std.specs.Option.{option_map_or}
use Rattle.std.specs.Cmp.Lexicographic.{pointwise}
use Rattle.std.proofs.lemmas.Bool.{lt-ltb, le-ltb}
use Rattle.indexmap.specs.IndexMap.{insert_entry}
use Rattle.directory_links.specs.Links.{Attribute}
use Rattle.directory_registry.specs.Prelude.{RegistrationValue, RegistryValue, found, new_place, place_of}
use Rattle.directory_registry.specs.Prelude.{without_location}
use Rattle.directory_registry.specs.Prelude.{with_change, with_attributes, renewed}
use Rattle.directory_registry.specs.Prelude.{registered, registered_at, expired, removed, attributed, updated, Reached}
use Rattle.directory_registry.specs.Prelude.{AreDistinct, IsNewKey}
use Rattle.directory_registry.proofs.EntryLemmas.{same_list, list_self, each_filter}
use Rattle.directory_registry.proofs.ReachedLemmas.{Entry, distinct}

-- ---- the end of lifetimes

abbrev live : ℕ → Entry → Bool
live now e = nat_lt now e.1.deadline

found_live : (now : ℕ) (key : List ℕ) (r : RegistrationValue) (es : List Entry) → nat_lt now r.deadline ≡ true
    → found es key ≡ Some r → found (filter (live now) es) key ≡ Some r
found_live now key r [] h there = absurd cc
found_live now key r (e ∷ es) h there =
    grind (arith, h, there, λ (k : found es key ≡ Some r). found_live now key r es h k)

new_is_absent : (key : List ℕ) (es : List Entry) → IsNewKey key es → found es key ≡ None
new_is_absent key [] new = refl
new_is_absent key (e ∷ es) new = rw new.0 (new_is_absent key es new.1)

found_ended : (now next : ℕ) (key : List ℕ) (r : RegistrationValue) (es : List Entry) → nat_lt now r.deadline ≡ false
    → AreDistinct next es → found es key ≡ Some r → found (filter (live now) es) key ≡ None
found_ended now next key r [] h all there = refl
found_ended now next key r (e ∷ es) h all there =
    let absent : pointwise nat_eq key e.0 ≡ true → found (filter (live now) es) key ≡ None =
    λ i. new_is_absent key _ (each_filter _ (live now) es (rw (same_list key e.0 i) all.1)) in
    grind (arith, h, there, absent, λ (k : found es key ≡ Some r). found_ended now next key r es h all.3 k)

pub lives : (v : RegistryValue) (key : List ℕ) (r : RegistrationValue) (now : ℕ) → found v.entries key ≡ Some r
    → now < r.deadline → found (expired v now).entries key ≡ Some r
unfolding expired
lives v key r now there h = found_live now key r v.entries (lt-ltb now r.deadline h) there

pub ends : (v : RegistryValue) → Reached v → (key : List ℕ) (r : RegistrationValue) (now : ℕ)
    → found v.entries key ≡ Some r → r.deadline ≤ now → found (expired v now).entries key ≡ None
unfolding expired
ends v reached key r now there h =
    found_ended now v.next key r v.entries (le-ltb now r.deadline h) (distinct v reached) there

-- ---- a registration

found_inserted : (key : List ℕ) (r : RegistrationValue) (es : List Entry)
    → found (insert_entry (pointwise nat_eq) es key r) key ≡ Some r
found_inserted key r [] = ap (λ (b : Bool). cond b (Some r) None) (list_self key)
found_inserted key r (e ∷ es) = grind (arith, found_inserted key r es)

pub keeps_location : (v : RegistryValue) (key : List ℕ) (old : RegistrationValue) → found v.entries key ≡ Some old
    → place_of v key ≡ Some old.number
keeps_location v key old there =
    ap (λ (o : Option RegistrationValue). option_map_or (λ (x : RegistrationValue). Some x.number) o (new_place v))
    there

pub is_last : (v : RegistryValue) (key : List ℕ) (r : RegistrationValue) (n : ℕ) → place_of v key ≡ Some n
    → found (registered_at (place_of v key) v key r).entries key ≡ Some (record r { number = n })
unfolding registered
is_last v key r n at =
    ap (λ (place : Option ℕ). found (registered_at place v key r).entries key) at
    ∙ found_inserted key (record r { number = n }) v.entries

-- ---- other endpoints

found_other : (key other : List ℕ) (r : RegistrationValue) (es : List Entry) → pointwise nat_eq other key ≡ false
    → found (insert_entry (pointwise nat_eq) es key r) other ≡ found es other
found_other key other r [] h = ap (λ (b : Bool). cond b (Some r) None) h
found_other key other r (e ∷ es) h = grind (arith, h, same_list key e.0, found_other key other r es h)

pub others_registered : (v : RegistryValue) (key other : List ℕ) (r : RegistrationValue)
    → pointwise nat_eq other key ≡ false
    → found (registered_at (place_of v key) v key r).entries other ≡ found v.entries other
unfolding registered
others_registered v key other r h = by (place_of v key)
  where
    by : (place : Option ℕ) → found (registered_at place v key r).entries other ≡ found v.entries other
    by None = refl
    by (Some n) = found_other key other (record r { number = n }) v.entries h

found_changed : (change : RegistrationValue → RegistrationValue) (n : ℕ) (other : List ℕ) (r : RegistrationValue)
    (es : List Entry) → r.number ≢ n → found es other ≡ Some r → found (with_change change n es) other ≡ Some r
found_changed change n other r [] differs there = absurd cc
found_changed change n other r (e ∷ es) differs there =
    grind (arith, differs, there, λ (k : found es other ≡ Some r). found_changed change n other r es differs k)

pub others_updated : (v : RegistryValue) (number now : ℕ) (lifetime : Option ℕ) (base : Option (List ℕ))
    (other : List ℕ) (r : RegistrationValue) → found v.entries other ≡ Some r → r.number ≢ number
    → found (updated v number now lifetime base).entries other ≡ Some r
unfolding updated
others_updated v number now lifetime base other r there differs =
    found_changed (renewed now lifetime base) number other r v.entries differs there

pub others_attributed : (v : RegistryValue) (number : ℕ) (attributes : List Attribute) (other : List ℕ)
    (r : RegistrationValue) → found v.entries other ≡ Some r → r.number ≢ number
    → found (attributed v number attributes).entries other ≡ Some r
unfolding attributed
others_attributed v number attributes other r there differs =
    found_changed (with_attributes attributes) number other r v.entries differs there

found_left : (n : ℕ) (other : List ℕ) (r : RegistrationValue) (es : List Entry) → r.number ≢ n → found es other ≡ Some r
    → found (without_location es n) other ≡ Some r
found_left n other r [] differs there = absurd cc
found_left n other r (e ∷ es) differs there =
    grind (arith, differs, there, λ (k : found es other ≡ Some r). found_left n other r es differs k)

pub others_removed : (v : RegistryValue) (number : ℕ) (other : List ℕ) (r : RegistrationValue)
    → found v.entries other ≡ Some r → r.number ≢ number → found (removed v number).entries other ≡ Some r
unfolding removed
others_removed v number other r there differs = found_left number other r v.entries differs there
