-- The maps of the registrations agree with their list.
use Rattle.std.proofs.Common.{◌≡◌, ◌⊎◌, inl, inr, ℕ, suc, ◌≤◌, ◌<◌, ◌^◌, Bool, true, false, List, [], ◌∷◌, length}
use Rattle.std.proofs.Common.{map, Option, Some, None, option_map, Result, Ok, Err, OnErr, refl, ap}
use Rattle.std.proofs.Common.{arith, nat_eq, nat_le}
use Rattle.std.specs.List.{list_all}
use Rattle.std.specs.Map.{lookup}
use Rattle.std.specs.Cmp.Lexicographic.{pointwise}
use Rattle.std.proofs.lemmas.Bool.{cases_Bool, lt-ltb, le-ltb, ne_eqb}
use Rattle.arrayvec.specs.declared.array_vec.ArrayVec.{ArrayVec}
use Rattle.directory_registry.specs.Prelude.{RegistrationValue, RegistryValue, found, place_of, new_place}
use Rattle.directory_registry.specs.Prelude.{registration_of}
use Rattle.directory_registry.specs.Prelude.{packed}
use Rattle.directory_registry.specs.Prelude.{Each, is_number, IsIndexed, number_in}
use Rattle.directory_registry.specs.declared.registration.Stored.{Stored}
use Rattle.directory_registry.proofs.EntryLemmas.{number_self, number_other, same_list, list_self, each_lookup, Ascends}
use Rattle.directory_registry.proofs.EntryLemmas.{lookup_above}

-- The key of an endpoint.
abbrev pub Key : Type 0
Key = ArrayVec ℕ 127 (Unit {0})

-- The bytes of a key are these.
abbrev pub same : List ℕ → Key → Bool
same key k = pointwise nat_eq key k.items

abbrev pub Indexed : ℕ → List (Key × ℕ) → List (ℕ × ℕ) → ℕ × Stored → Type 0
Indexed next numbers labels = IsIndexed next numbers labels (λ k. k.items)

pub any_err : {A E : Type 0} (r : Result A E) (P : Type 0) → P → OnErr r P
any_err (Ok x) P p = tt
any_err (Err e) P p = p

-- The entries that contracts see.
abbrev pub views : List (ℕ × Stored) → List (List ℕ × RegistrationValue)
views es = map (λ e. (e.1.key.items, registration_of e.1.registration)) es

-- No registration of the list ends before this time.
abbrev pub all_after : ℕ → List (ℕ × Stored) → Bool
all_after m es = list_all (λ e. nat_le m e.1.registration.deadline) es

-- Two labels with numbers are one number only if they are the same.
pub packed_same : (l k n m : ℕ) → n < 2 ^ 64 → m < 2 ^ 64 → packed l n ≡ packed k m → n ≡ m
unfolding packed
packed_same l k n m h i e = omega arith

pub packed_label : (l k n : ℕ) → packed l n ≡ packed k n → l ≡ k
unfolding packed
packed_label l k n e = omega arith

-- ---- the location of an endpoint

-- The registration with a key, in the list and by its number.
pub record IsHit (key : List ℕ) (es : List (ℕ × Stored)) : Type 0 where
  pub at : ℕ
  pub stored : Stored
  pub there : lookup (is_number at) es ≡ Some stored
  pub match : same key stored.key ≡ true
  pub is : found (views es) key ≡ Some (registration_of stored.registration)

-- No registration has the key.
abbrev pub HasNone : List ℕ → List (ℕ × Stored) → Type 0
HasNone key es = Each (λ (e : ℕ × Stored). same key e.1.key ≡ false) es

pub hit_or_none : (key : List ℕ) (es : List (ℕ × Stored)) → Ascends es → HasNone key es ⊎ IsHit key es
hit_or_none key [] up = inl tt
hit_or_none key (e ∷ es) up = by (cases_Bool (same key e.1.key)) (hit_or_none key es up.1)
  where
    by : (same key e.1.key ≡ true) ⊎ (same key e.1.key ≡ false) → HasNone key es ⊎ IsHit key es
        → HasNone key (e ∷ es) ⊎ IsHit key (e ∷ es)
    by (inl h) rest =
        inr (record { at = e.0; stored = e.1; there = rw (number_self e.0) refl; match = h; is = rw h refl })
    by (inr h) (inl none) = inl (h, none)
    by (inr h) (inr hit) = inr (record {
      at = hit.at;
      stored = hit.stored;
      there = rw (number_other hit.at e.0
          (λ i. absurd (cc (hit.there, rw (← i) at (lookup_above e.0 es up.0))))) hit.there;
      match = hit.match;
      is = rw h hit.is;
    })

pub none_found : (key : List ℕ) (es : List (ℕ × Stored)) → HasNone key es → found (views es) key ≡ None
none_found key [] none = refl
none_found key (e ∷ es) none = rw none.0 (none_found key es none.1)

pub other_way : (a b : List ℕ) → pointwise nat_eq b a ≡ true → pointwise nat_eq a b ≡ true
other_way a b h = rw (same_list b a h) (list_self a)

not_in : (key : List ℕ) (o : Option ℕ) (es : List (ℕ × Stored)) → HasNone key es → None ≡ number_in key o es
not_in key None es none = refl
not_in key (Some n) es none =
    let not_here = λ (s : Stored) (h : lookup (is_number n) es ≡ Some s). each_lookup
    (λ (e : ℕ × Stored). same key e.1.key ≡ false) n es s none h in
    grind (arith, not_here, λ (s : Stored). other_way key s.key.items)

-- The map of numbers has the number of the registration with a key.
pub hit_number : (key : List ℕ) (next : ℕ) (ns : List (Key × ℕ)) (ls : List (ℕ × ℕ)) (es : List (ℕ × Stored))
    (hit : IsHit key es) → Each (Indexed next ns ls) es → lookup (same key) ns ≡ Some hit.at
hit_number key next ns ls es hit all =
    let one = each_lookup (Indexed next ns ls) hit.at es hit.stored all hit.there in
    rw (same_list key hit.stored.key.items hit.match) one.key

-- The location of an endpoint, by the list and by the maps.
pub number_is : (key : List ℕ) (next : ℕ) (ns : List (Key × ℕ)) (ls : List (ℕ × ℕ)) (es : List (ℕ × Stored))
    → Ascends es → Each (Indexed next ns ls) es
    → option_map (λ r. r.number) (found (views es) key) ≡ number_in key (lookup (same key) ns) es
number_is key next ns ls es up all = by (hit_or_none key es up)
  where
    by : HasNone key es ⊎ IsHit key es
        → option_map (λ r. r.number) (found (views es) key) ≡ number_in key (lookup (same key) ns) es
    by (inl none) = rw (none_found key es none) (not_in key (lookup (same key) ns) es none)
    by (inr hit) =
        let one = each_lookup (Indexed next ns ls) hit.at es hit.stored all hit.there in
        rw (
          hit.is,
          hit_number key next ns ls es hit all,
          hit.there,
          other_way hit.stored.key.items key hit.match,
        ) (ap Some one.number)

pub place_there : (v : RegistryValue) (key : List ℕ) (n : ℕ) → option_map (λ r. r.number) (found v.entries key) ≡ Some n
    → Some n ≡ place_of v key
place_there v key n h = grind (arith, h)

pub place_absent : (v : RegistryValue) (key : List ℕ) → option_map (λ r. r.number) (found v.entries key) ≡ None
    → new_place v ≡ place_of v key
place_absent v key h = grind (arith, h)

pub new_full : (v : RegistryValue) → v.limit ≤ length v.entries → None ≡ new_place v
new_full v h = rw (le-ltb (length v.entries) v.limit h) refl

pub new_last : (v : RegistryValue) → length v.entries < v.limit → v.next ≡ 18446744073709551615 → None ≡ new_place v
new_last v h e = rw (lt-ltb (length v.entries) v.limit h, e) refl

pub new_next : (v : RegistryValue) → length v.entries < v.limit → (v.next ≡ 18446744073709551615 → ⊥)
    → Some v.next ≡ new_place v
new_next v h e = rw (lt-ltb (length v.entries) v.limit h, ne_eqb v.next 18446744073709551615 e) refl

pub new_is_next : (v : RegistryValue) (n : ℕ) → new_place v ≡ Some n → (n ≡ v.next) × (n ≡ 18446744073709551615 → ⊥)
new_is_next v n h = grind (arith, h)

pub length_view : (es : List (ℕ × Stored)) → length (views es) ≡ length es
length_view [] = refl
length_view (e ∷ es) = ap suc (length_view es)
