-- The maps after a registration was stored, renewed or removed.
use Rattle.std.proofs.Common.{◌≡◌, ◌⊎◌, inl, inr, ℕ, ◌≤◌, ◌<◌, ◌^◌, true, false, List, [], ◌∷◌, ◌++◌}
use Rattle.std.proofs.Common.{Some, None, option_map, refl, ap, sym, subst, ◌∙◌, arith, nat_eq}
use Rattle.std.specs.Ordering.{nat_cmp}
use Rattle.std.specs.Map.{lookup, set_value}
use Rattle.std.specs.BTreeMap.{insert_entry}
use Rattle.std.specs.Cmp.Lexicographic.{pointwise}
use Rattle.std.proofs.lemmas.Bool.{both_ways, false_from_ne_true}
use Rattle.indexmap.specs.IndexMap as listed
use Rattle.directory_registry.specs.Prelude.{RegistrationValue, RegistryValue, found, place_of, registration_of}
use Rattle.directory_registry.specs.Prelude.{packed, next_location}
use Rattle.directory_registry.specs.Prelude.{Each, is_number}
use Rattle.directory_registry.specs.declared.registration.Stored.{Stored}
use Rattle.directory_registry.proofs.EntryLemmas.{number_self, same_list, each_map, each_both, each_lookup, each_set}
use Rattle.directory_registry.proofs.EntryLemmas.{each_append, Ascends, insert_new, insert_present}
use Rattle.directory_registry.proofs.RegistryLemmas.{Key, same, Indexed, views, HasNone, IsHit, hit_or_none, hit_number}
use Rattle.directory_registry.proofs.RegistryLemmas.{place_there, place_absent, new_is_next, none_found}

-- Only the registration at this location has the key.
abbrev pub IsOnly : List ℕ → ℕ → ℕ × Stored → Type 0
IsOnly key n e = same key e.1.key ≡ true → n ≡ e.0

-- A change of one registration leaves the numbers of other keys, and the labels of other locations.
pub record Kept (key : List ℕ) (n : ℕ) (ns ns' : List (Key × ℕ)) (ls ls' : List (ℕ × ℕ)) : Type 0 where
  pub numbers : (k : Key) → same key k ≡ false → lookup (same k.items) ns' ≡ lookup (same k.items) ns
  pub labels : (l m : ℕ) → m < 2 ^ 64 → (n ≡ m → ⊥)
      → lookup (is_number (packed l m)) ls' ≡ lookup (is_number (packed l m)) ls

-- Another registration stays indexed.
pub others_indexed : (key : List ℕ) (n next next' : ℕ) (ns ns' : List (Key × ℕ)) (ls ls' : List (ℕ × ℕ))
    → Kept key n ns ns' ls ls' → next ≤ next' → (e : ℕ × Stored) → (n ≡ e.0 → ⊥) → Indexed next ns ls e × IsOnly key n e
    → Indexed next' ns' ls' e
others_indexed key n next next' ns ns' ls ls' kept more e other h =
    let i = h.0 in
    let below : e.0 < next = i.below in
    record {
      number = i.number;
      below = omega arith;
      key = kept.numbers e.1.key (false_from_ne_true _ (λ t. absurd (other (h.1 t)))) ∙ i.key;
      found = record {
        small = i.found.small;
        label = kept.labels _ e.0 i.found.small other ∙ i.found.label;
      };
    }

-- The registration at a present number is replaced in its place.
pub view_present : (key : List ℕ) (n : ℕ) (s old : Stored) → s.key.items ≡ key → same key old.key ≡ true
    → (es : List (ℕ × Stored)) → Each (IsOnly key n) es → lookup (is_number n) es ≡ Some old
    → views (set_value (is_number n) es s) ≡ listed.insert_entry (pointwise nat_eq) (views es) key
    (registration_of s.registration)
view_present key n s old k o [] only there = absurd cc
view_present key n s old k o (e ∷ es) only there =
    grind (
      arith,
      k,
      o,
      there,
      only.0,
      number_self n,
      same_list key e.1.key.items,
      λ (h : lookup (is_number n) es ≡ Some old). view_present key n s old k o es only.1 h,
    )

-- A registration with a new key goes last.
pub view_new : (key : List ℕ) (n : ℕ) (s : Stored) → s.key.items ≡ key → (es : List (ℕ × Stored)) → HasNone key es
    → views (es ++ (n, s) ∷ []) ≡ listed.insert_entry (pointwise nat_eq) (views es) key (registration_of s.registration)
view_new key n s k [] none = rw k refl
view_new key n s k (e ∷ es) none = grind (arith, none.0, view_new key n s k es none.1)

-- The location that a registration gets is that of the key, or the next one.
pub data Placed (key : List ℕ) (n next : ℕ) (ns : List (Key × ℕ)) (es : List (ℕ × Stored)) : Type 0 where
  Present : (old : Stored) → lookup (is_number n) es ≡ Some old → same key old.key ≡ true
      → lookup (same key) ns ≡ Some n → Placed key n next ns es
  New : n ≡ next → (n ≡ 18446744073709551615 → ⊥) → HasNone key es → Placed key n next ns es

pub placed : (v : RegistryValue) (key : List ℕ) (n : ℕ) (ns : List (Key × ℕ)) (ls : List (ℕ × ℕ))
    (es : List (ℕ × Stored)) → v.entries ≡ views es → Ascends es → Each (Indexed v.next ns ls) es
    → place_of v key ≡ Some n → Placed key n v.next ns es
placed v key n ns ls es view up all place = by (hit_or_none key es up)
  where
    by : HasNone key es ⊎ IsHit key es → Placed key n v.next ns es
    by (inl none) =
        let absent : option_map (λ (r : RegistrationValue). r.number) (found v.entries key) ≡ None =
        ap (λ (t : List (List ℕ × RegistrationValue)).
        option_map (λ (r : RegistrationValue). r.number) (found t key)) view
        ∙ ap (option_map (λ (r : RegistrationValue). r.number)) (none_found key es none) in
        let at = new_is_next v n (place_absent v key absent ∙ place) in
        New at.0 at.1 none
    by (inr hit) =
        let one = each_lookup (Indexed v.next ns ls) hit.at es hit.stored all hit.there in
        let there : option_map (λ (r : RegistrationValue). r.number) (found v.entries key) ≡ Some hit.at =
        ap (λ (t : List (List ℕ × RegistrationValue)).
        option_map (λ (r : RegistrationValue). r.number) (found t key)) view
        ∙ ap (option_map (λ (r : RegistrationValue). r.number)) hit.is ∙ ap Some one.number in
        let where_it_is : Some hit.at ≡ Some n = place_there v key hit.at there ∙ place in
        let at : hit.at ≡ n = cc in
        Present hit.stored (subst (λ (m : ℕ). lookup (is_number m) es ≡ Some hit.stored) at hit.there) hit.match
        (subst (λ (m : ℕ). lookup (same key) ns ≡ Some m) at (hit_number key v.next ns ls es hit all))

pub only_present : (key : List ℕ) (n next : ℕ) (ns : List (Key × ℕ)) (ls : List (ℕ × ℕ)) → lookup (same key) ns ≡ Some n
    → (e : ℕ × Stored) → Indexed next ns ls e → IsOnly key n e
only_present key n next ns ls there e i match =
    let at = rw (same_list key e.1.key.items match) at there in
    cc (at, i.key)

only_new : (key : List ℕ) (n : ℕ) (e : ℕ × Stored) → same key e.1.key ≡ false → IsOnly key n e
only_new key n e none match = absurd (both_ways _ none match)

-- The registrations that contracts see after one was stored.
pub stored_view : (key : List ℕ) (n next : ℕ) (s : Stored) (ns : List (Key × ℕ)) (ls : List (ℕ × ℕ))
    (es : List (ℕ × Stored)) → s.key.items ≡ key → Ascends es → Each (Indexed next ns ls) es → Placed key n next ns es
    → views (insert_entry nat_cmp es n s) ≡ listed.insert_entry (pointwise nat_eq) (views es) key
    (registration_of s.registration)
stored_view key n next s ns ls es k up all (Present old there match number) =
    ap views (insert_present n s old es up there)
    ∙ view_present key n s old k match es
    (each_map (Indexed next ns ls) (IsOnly key n) (only_present key n next ns ls number) es all) there
stored_view key n next s ns ls es k up all (New is last none) =
    ap views (insert_new n s es
    (each_map (Indexed next ns ls) (λ (e : ℕ × Stored). e.0 < n)
    (λ e i. let b : e.0 < next = i.below in omega arith) es all)) ∙ view_new key n s k es none

-- Each registration is indexed after one was stored.
pub stored_well : (key : List ℕ) (n next next' : ℕ) (s : Stored) (ns ns' : List (Key × ℕ)) (ls ls' : List (ℕ × ℕ))
    (es : List (ℕ × Stored)) → Kept key n ns ns' ls ls' → next ≤ next' → Indexed next' ns' ls' (n, s)
    → Ascends es → Each (Indexed next ns ls) es → Placed key n next ns es
    → Each (Indexed next' ns' ls') (insert_entry nat_cmp es n s)
stored_well key n next next' s ns ns' ls ls' es kept more new up all (Present old there match number) =
    let only = each_map (Indexed next ns ls) (IsOnly key n) (only_present key n next ns ls number) es all in
    subst (Each (Indexed next' ns' ls')) (sym (insert_present n s old es up there))
    (each_set (λ (e : ℕ × Stored). Indexed next ns ls e × IsOnly key n e) (Indexed next' ns' ls') n s
    (others_indexed key n next next' ns ns' ls ls' kept more) new es up
    (each_both (Indexed next ns ls) (IsOnly key n) es all only))
stored_well key n next next' s ns ns' ls ls' es kept more new up all (New is last none) =
    let only = each_map (λ (e : ℕ × Stored). same key e.1.key ≡ false) (IsOnly key n)
    (λ e h. only_new key n e h) es none in
    subst (Each (Indexed next' ns' ls'))
    (sym (insert_new n s es
    (each_map (Indexed next ns ls) (λ (e : ℕ × Stored). e.0 < n)
    (λ e i. let b : e.0 < next = i.below in omega arith) es all)))
    (each_append (Indexed next' ns' ls') es (n, s)
    (each_map (λ (e : ℕ × Stored). Indexed next ns ls e × IsOnly key n e) (Indexed next' ns' ls')
    (λ e h. others_indexed key n next next' ns ns' ls ls' kept more e
    (λ i. let b : e.0 < next = h.0.below in absurd (omega arith)) h) es
    (each_both (Indexed next ns ls) (IsOnly key n) es all only)) new)

-- The number of the next location after a registration is above those so far.
pub next_above : (key : List ℕ) (n next : ℕ) (ns : List (Key × ℕ)) (ls : List (ℕ × ℕ)) (es : List (ℕ × Stored))
    → Each (Indexed next ns ls) es → Placed key n next ns es
    → (n < next_location next n) × (next ≤ next_location next n)
next_above key n next ns ls es all (Present old there match number) =
    let below : n < next = (each_lookup (Indexed next ns ls) n es old all there).below in
    grind (arith, below)
next_above key n next ns ls es all (New is last none) = grind (arith, is, last)
