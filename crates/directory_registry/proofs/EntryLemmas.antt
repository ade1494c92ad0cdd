-- Lists of registrations by their numbers.
use Rattle.std.proofs.Common.{◌≡◌, ℕ, ◌<◌, Bool, true, false, List, [], ◌∷◌, ◌++◌, filter, Some, None, refl}
use Rattle.std.proofs.Common.{sym, arith, nat_eq}
use Rattle.std.specs.List.Sorted.{IsStrictlySortedBy}
use Rattle.std.specs.List.{AllByRecursion}
use Rattle.std.specs.declared.cmp.Ordering.TheVariants.{Less}
use Rattle.std.specs.Ordering.{nat_cmp}
use Rattle.std.specs.Cmp.Lexicographic.{pointwise}
use Rattle.std.specs.Map.{keys_of, lookup, set_value, remove_entry}
use Rattle.std.specs.BTreeMap.{insert_entry}
use Rattle.std.proofs.lemmas.Bool.{both_ways, cond_both}
use Rattle.std.proofs.lemmas.Bool.Decides.{nat_tests}
use Rattle.std.proofs.lemmas.Cmp.{ranked}
use Rattle.std.proofs.lemmas.Map.Keys.{sorted_head, sorted_tail}
use Rattle.directory_registry.specs.Prelude.{Each, is_number}

pub number_self : (n : ℕ) → is_number n n ≡ true
number_self n = grind (arith, nat_tests)

pub number_same : (n k : ℕ) → is_number n k ≡ true → n ≡ k
number_same n k h = grind (arith, nat_tests)

pub number_other : (n k : ℕ) → (n ≡ k → ⊥) → is_number n k ≡ false
number_other n k h = grind (arith, nat_tests)

-- Equal lists, by the test.
pub same_list : (a b : List ℕ) → pointwise nat_eq a b ≡ true → a ≡ b
same_list [] [] h = refl
same_list [] (y ∷ b) h = absurd cc
same_list (x ∷ a) [] h = absurd cc
same_list (x ∷ a) (y ∷ b) h = grind (arith, same_list a b)

pub list_self : (a : List ℕ) → pointwise nat_eq a a ≡ true
list_self [] = refl
list_self (x ∷ a) = grind (arith, nat_tests, list_self a)

pub each_map : {A : Type 0} (P Q : A → Type 0) → ((x : A) → P x → Q x) → (xs : List A) → Each P xs → Each Q xs
each_map P Q f [] all = tt
each_map P Q f (x ∷ xs) all = (f x all.0, each_map P Q f xs all.1)

pub each_both : {A : Type 0} (P Q : A → Type 0) (xs : List A) → Each P xs → Each Q xs → Each (λ x. P x × Q x) xs
each_both P Q [] p q = tt
each_both P Q (x ∷ xs) p q = ((p.0, q.0), each_both P Q xs p.1 q.1)

pub each_append : {A : Type 0} (P : A → Type 0) (xs : List A) (y : A) → Each P xs → P y → Each P (xs ++ y ∷ [])
each_append P [] y all p = (p, tt)
each_append P (x ∷ xs) y all p = (all.0, each_append P xs y all.1 p)

pub each_filter : {A : Type 0} (P : A → Type 0) (keep : A → Bool) (xs : List A) → Each P xs → Each P (filter keep xs)
each_filter P keep [] all = tt
each_filter P keep (x ∷ xs) all = grind (arith, all.0, all.1, each_filter P keep xs all.1)

module _ {X : Type 0} where
  -- The numbers of the entries are greater.
  abbrev pub Above : ℕ → List (ℕ × X) → Type 0
  Above n es = Each (λ (e : ℕ × X). n < e.0) es

  -- The numbers of the entries ascend.
  abbrev pub Ascends : List (ℕ × X) → Type 0
  Ascends [] = Unit {0}
  Ascends (e ∷ es) = Above e.0 es × Ascends es

  above_from : (n : ℕ) (es : List (ℕ × X)) → AllByRecursion (λ y. nat_cmp n y ≡ Less) (keys_of es) → Above n es
  above_from n [] all = tt
  above_from n (e ∷ es) all = (ranked n e.0 Less (sym all.0), above_from n es all.1)

  pub ascends_from : (es : List (ℕ × X)) → IsStrictlySortedBy nat_cmp (keys_of es) → Ascends es
  ascends_from [] sorted = tt
  ascends_from (e ∷ es) sorted = (
    above_from e.0 es (sorted_head nat_cmp e.0 (keys_of es) sorted),
    ascends_from es
        (sorted_tail nat_cmp e.0 (keys_of es) sorted),
  )

  -- No entry is below the numbers of all.
  pub lookup_above : (n : ℕ) (es : List (ℕ × X)) → Above n es → lookup (is_number n) es ≡ None
  lookup_above n [] all = refl
  lookup_above n (e ∷ es) all =
      let more : n < e.0 = all.0 in
      rw (number_other n e.0 (λ h. absurd (omega arith))) (lookup_above n es all.1)

  -- A property of each entry is one of the entry that is found.
  pub each_lookup : (P : ℕ × X → Type 0) (n : ℕ) (es : List (ℕ × X)) (x : X) → Each P es
      → lookup (is_number n) es ≡ Some x → P (n, x)
  each_lookup P n [] x all h = absurd cc
  each_lookup P n (e ∷ es) x all h =
      grind (arith, all.0, h, number_same n e.0, λ (k : lookup (is_number n) es ≡ Some x). each_lookup P n es x all.1 k)

  -- A new number above all goes last.
  pub insert_new : (n : ℕ) (x : X) (es : List (ℕ × X)) → Each (λ (e : ℕ × X). e.0 < n) es
      → insert_entry nat_cmp es n x ≡ es ++ (n, x) ∷ []
  insert_new n x [] below = refl
  insert_new n x (e ∷ es) below = grind (arith, nat_tests, below.0, insert_new n x es below.1)

  -- A present number keeps its place.
  pub insert_present : (n : ℕ) (x old : X) (es : List (ℕ × X)) → Ascends es → lookup (is_number n) es ≡ Some old
      → insert_entry nat_cmp es n x ≡ set_value (is_number n) es x
  insert_present n x old [] up h = absurd cc
  insert_present n x old (e ∷ es) up h =
      grind (
        arith,
        nat_tests,
        h,
        λ (less : n < e.0). lookup_above n es (each_map _ _ (λ y more. omega arith) es up.0),
        λ (k : lookup (is_number n) es ≡ Some old). insert_present n x old es up.1 k,
      )

  -- A property of each entry after the one at a number.
  others : (P Q : ℕ × X → Type 0) (n : ℕ) → ((e : ℕ × X) → (n ≡ e.0 → ⊥) → P e → Q e) → (e : ℕ × X) (es : List (ℕ × X))
      → n ≡ e.0 → Above e.0 es → Each P es → Each Q es
  others P Q n f e es is up all =
      each_map _ Q (λ y h. let more : e.0 < y.0 = h.0 in f y (λ i. absurd (omega (arith, i, is))) h.1) es
      (each_both _ P es up all)

  -- A property of each entry after the one at a number was changed.
  pub each_set : (P Q : ℕ × X → Type 0) (n : ℕ) (x : X) → ((e : ℕ × X) → (n ≡ e.0 → ⊥) → P e → Q e) → Q (n, x)
      → (es : List (ℕ × X)) → Ascends es → Each P es → Each Q (set_value (is_number n) es x)
  each_set P Q n x f q [] up all = tt
  each_set P Q n x f q (e ∷ es) up all =
      cond_both (is_number n e.0) _ _ (Each Q)
      (λ k. (rw (← number_same n e.0 k) q, others P Q n f e es (number_same n e.0 k) up.0 all.1))
      (λ k. (f e (λ i. both_ways _ k (rw i (number_self e.0))) all.0, each_set P Q n x f q es up.1 all.1))

  -- A property of each entry after the one at a number was removed.
  pub each_remove : (P Q : ℕ × X → Type 0) (n : ℕ) → ((e : ℕ × X) → (n ≡ e.0 → ⊥) → P e → Q e) → (es : List (ℕ × X))
      → Ascends es → Each P es → Each Q (remove_entry (is_number n) es)
  each_remove P Q n f [] up all = tt
  each_remove P Q n f (e ∷ es) up all =
      cond_both (is_number n e.0) _ _ (Each Q) (λ k. others P Q n f e es (number_same n e.0 k) up.0 all.1)
      (λ k. (f e (λ i. both_ways _ k (rw i (number_self e.0))) all.0, each_remove P Q n f es up.1 all.1))

  -- Each entry has its number.
  pub each_self : (es : List (ℕ × X)) → Each (λ (e : ℕ × X). (x : X) × (lookup (is_number e.0) es ≡ Some x)) es
  each_self [] = tt
  each_self (e ∷ es) = (
    (e.1, rw (number_self e.0) refl),
    each_map _ _ (λ y h. cond_both (is_number y.0 e.0) _ _ (λ o. (x : X) × (o ≡ Some x)) (λ k. (e.1, refl)) (λ k. h)) es
        (each_self es),
  )

-- An entry that is found, and is kept, is found among those that are kept.
pub lookup_kept : {K X : Type 0} (test : K → Bool) (keep : X → Bool) (x : X) → keep x ≡ true → (es : List (K × X))
    → lookup test es ≡ Some x → lookup test (filter (λ e. keep e.1) es) ≡ Some x
lookup_kept test keep x k [] h = h
lookup_kept test keep x k (e ∷ es) h =
    grind (arith, k, h, λ (i : lookup test es ≡ Some x). lookup_kept test keep x k es i)
