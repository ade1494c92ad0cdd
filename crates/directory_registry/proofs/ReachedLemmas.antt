-- The endpoints and the locations of a reached registry are distinct.
use Rattle.std.proofs.Common.{◌≡◌, ◌≢◌, ℕ, ◌+◌, ◌-◌, ◌<◌, ◌^◌, Bool, true, false, cond, List, [], ◌∷◌, filter, length}
use Rattle.std.proofs.Common.{nat_eq, nat_lt, Option, Some, None, refl, sym, subst, ◌∙◌, arith}
use Rattle.std.specs.Option.{option_map_or}
use Rattle.std.specs.Cmp.Lexicographic.{pointwise}
use Rattle.std.proofs.lemmas.Bool.{cond_both, le-ltb, lt-ltb}
use Rattle.indexmap.specs.IndexMap.{insert_entry}
use Rattle.directory_registry.specs.Prelude.{RegistrationValue, RegistryValue, found, place_of}
use Rattle.directory_registry.specs.Prelude.{without_location, with_change, with_attributes, renewed, Each}
use Rattle.directory_registry.specs.Prelude.{registered, registered_at, expired, removed, attributed, updated, Reached}
use Rattle.directory_registry.specs.Prelude.{AreDistinct}
use Rattle.directory_registry.specs.Reached.{Begun, AfterRegistration, AfterUpdate, AfterAttributes, AfterRemoval}
use Rattle.directory_registry.specs.Reached.{AfterExpiry}
use Rattle.directory_registry.proofs.EntryLemmas.{each_filter}
use Rattle.directory_registry.proofs.RegistryLemmas.{other_way}

abbrev pub Entry : Type 0
Entry = List ℕ × RegistrationValue

-- ---- fewer entries

distinct_kept : (keep : Entry → Bool) (next : ℕ) (es : List Entry) → AreDistinct next es
    → AreDistinct next (filter keep es)
distinct_kept keep next [] all = tt
distinct_kept keep next (e ∷ es) all =
    let rest = distinct_kept keep next es all.3 in
    cond_both (keep e) _ _ (AreDistinct next)
    (λ k. (all.0, each_filter _ keep es all.1, each_filter _ keep es all.2, rest)) (λ k. rest)

pub each_without : (P : Entry → Type 0) (n : ℕ) (es : List Entry) → Each P es → Each P (without_location es n)
each_without P n [] all = tt
each_without P n (e ∷ es) all = grind (arith, all.0, all.1, each_without P n es all.1)

distinct_without : (n next : ℕ) (es : List Entry) → AreDistinct next es → AreDistinct next (without_location es n)
distinct_without n next [] all = tt
distinct_without n next (e ∷ es) all =
    cond_both (nat_eq e.1.number n) _ _ (AreDistinct next) (λ k. all.3)
    (λ k. (all.0, each_without _ n es all.1, each_without _ n es all.2, distinct_without n next es all.3))

-- ---- a change that keeps the location

module _ (change : RegistrationValue → RegistrationValue)
    (same : (r : RegistrationValue) → (change r).number ≡ r.number) (n : ℕ) where
  -- A property of keys and numbers stays.
  each_changed : (P : List ℕ → ℕ → Type 0) (es : List Entry) → Each (λ e. P e.0 e.1.number) es
      → Each (λ e. P e.0 e.1.number) (with_change change n es)
  each_changed P [] all = tt
  each_changed P (e ∷ es) all =
      cond_both (nat_eq e.1.number n) _ _ (Each (λ e. P e.0 e.1.number)) (λ k. (rw same all.0, all.1))
      (λ k. (all.0, each_changed P es all.1))

  distinct_changed : (next : ℕ) (es : List Entry) → AreDistinct next es → AreDistinct next (with_change change n es)
  distinct_changed next [] all = tt
  distinct_changed next (e ∷ es) all =
      cond_both (nat_eq e.1.number n) _ _ (AreDistinct next) (λ k. rw same all)
      (λ k. (
        all.0,
        each_changed (λ key number. pointwise nat_eq e.0 key ≡ false) es all.1,
        each_changed (λ key number. e.1.number ≢ number) es all.2,
        distinct_changed next es all.3,
      ))

-- ---- a registration

found_below : (key : List ℕ) (old : RegistrationValue) (next : ℕ) (es : List Entry) → found es key ≡ Some old
    → AreDistinct next es → old.number < next
found_below key old next [] there all = absurd cc
found_below key old next (e ∷ es) there all =
    grind (arith, all.0, λ (k : found es key ≡ Some old). found_below key old next es k all.3)

not_back : (a b : List ℕ) → pointwise nat_eq a b ≡ false → pointwise nat_eq b a ≡ false
not_back a b h = grind (arith, other_way a b, other_way b a)

-- The registration `r` of an endpoint that has the registration `o`, if it has one.
module _ (key : List ℕ) (r : RegistrationValue) (o : Option RegistrationValue) where
  each_inserted : (P : Entry → Type 0) → (o ≡ None → P (key, r))
      → ((k : List ℕ) (old : RegistrationValue) → pointwise nat_eq key k ≡ true → o ≡ Some old → P (k, old) → P (k, r))
      → (es : List Entry)
      → found es key ≡ o → Each P es → Each P (insert_entry (pointwise nat_eq) es key r)
  each_inserted P new there [] is all = (new (sym is), tt)
  each_inserted P new there (e ∷ es) is all =
      cond_both (pointwise nat_eq key e.0) _ _ (Each P)
      (λ k. (there e.0 e.1 k (sym is ∙ rw k refl) all.0, all.1))
      (λ k. (all.0, each_inserted P new there es (rw k at is) all.1))

  distinct_inserted : (next after : ℕ) → (o ≡ None → (r.number ≡ next) × (after ≡ next + 1))
      → ((old : RegistrationValue) → o ≡ Some old → (r.number ≡ old.number) × (after ≡ next)) → (es : List Entry)
      → found es key ≡ o → AreDistinct next es → AreDistinct after (insert_entry (pointwise nat_eq) es key r)
  distinct_inserted next after new there [] is all = (omega (arith, new (sym is)), tt, tt, tt)
  distinct_inserted next after new there (e ∷ es) is all =
      cond_both (pointwise nat_eq key e.0) _ _ (AreDistinct after)
      (λ k. let h = there e.1 (sym is ∙ rw k refl) in rw h.0 (subst (λ m. AreDistinct m (e ∷ es)) (sym h.1) all))
      (λ k. (
        grind (arith, all.0, new, there),
        each_inserted _ (λ n. not_back key e.0 k) (λ key old same n h. h) es (rw k at is) all.1,
        each_inserted _ (λ n same. omega (arith, new n, same, all.0)) (λ key old same n h. rw (there old n).0 h) es
            (rw k at is)
            all.2,
        distinct_inserted next after new there es (rw k at is) all.3,
      ))

pub each_registered : (P : Entry → Type 0) (v : RegistryValue) (key : List ℕ) (r : RegistrationValue) → P (key, r)
    → ((k : List ℕ) → pointwise nat_eq key k ≡ true → P (k, r)) → Each P v.entries → Each P (registered v key r).entries
unfolding registered
each_registered P v key r this there all =
    each_inserted key r _ P (λ n. this) (λ k old same n h. there k same) v.entries refl all

-- ---- all reached registries

distinct_registered : (v : RegistryValue) (key : List ℕ) (r : RegistrationValue) → AreDistinct v.next v.entries
    → AreDistinct (registered_at (place_of v key) v key r).next (registered_at (place_of v key) v key r).entries
unfolding registered
distinct_registered v key r all =
    by (found v.entries key) refl (nat_lt (length v.entries) v.limit) (nat_eq v.next (2 ^ 64 - 1)) refl
  where
    by : (o : Option RegistrationValue) → found v.entries key ≡ o → (room last : Bool)
        → nat_eq v.next (2 ^ 64 - 1) ≡ last
        → let place = option_map_or (λ (x : RegistrationValue). Some x.number) o
        (cond room (cond last None (Some v.next)) None) in
        AreDistinct (registered_at place v key r).next (registered_at place v key r).entries
    by (Some old) there room last e =
        distinct_inserted key _ (Some old) v.next _ (λ n. absurd cc)
        (λ s n. (cc, rw (lt-ltb old.number v.next (found_below key old v.next v.entries there all)) refl)) v.entries
        there all
    by None none false last e = all
    by None none true true e = all
    by None none true false e =
        distinct_inserted key _ None v.next _ (λ n. (refl, rw (le-ltb v.next v.next (omega arith), e) refl))
        (λ s n. absurd cc) v.entries
        none all

pub distinct : (v : RegistryValue) → Reached v → AreDistinct v.next v.entries
unfolding expired removed attributed updated
distinct _ (Begun limit) = tt
distinct _ (AfterRegistration v key r before) = distinct_registered v key r (distinct v before)
distinct _ (AfterUpdate v number now lifetime base before) =
    distinct_changed (renewed now lifetime base) (λ r. refl) number v.next v.entries (distinct v before)
distinct _ (AfterAttributes v number attributes before) =
    distinct_changed (with_attributes attributes) (λ r. refl) number v.next v.entries (distinct v before)
distinct _ (AfterRemoval v number before) = distinct_without number v.next v.entries (distinct v before)
distinct _ (AfterExpiry v now before) =
    distinct_kept (λ e. nat_lt now e.1.deadline) v.next v.entries (distinct v before)
