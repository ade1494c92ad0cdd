-- Lists of observers and other lists: facts on each element, and the first element that is due.
use Rattle.std.proofs.Common.{◌≡◌, ℕ, ◌+◌, ◌≤◌, Bool, true, false, List, [], ◌∷◌, ◌++◌, length, map, Some, None, refl}
use Rattle.std.proofs.Common.{arith, filter, find, if◌then◌else◌}
use Rattle.coap_model.specs.Prelude.{AllByRecursion, with_entry, first_becomes, asks_entry, Watch}
use Rattle.coap_store.specs.declared.plan.Watch.TheVariants as watch
use Rattle.coap_model.proofs.OptionLemmas.{same_there}

-- ---- properties of each element

pub all_to : {O : Type 0} (P Q : O → Type 0) → ((o : O) → P o → Q o) → (os : List O)
    → AllByRecursion P os → AllByRecursion Q os
all_to P Q to [] all = tt
all_to P Q to (o ∷ os) all = (to o all.0, all_to P Q to os all.1)

pub all_append : {O : Type 0} (P : O → Type 0) (os ps : List O) → AllByRecursion P os → AllByRecursion P ps
    → AllByRecursion P (os ++ ps)
all_append P [] ps all more = more
all_append P (o ∷ os) ps all more = (all.0, all_append P os ps all.1 more)

pub all_filter : {O : Type 0} (P : O → Type 0) (test : O → Bool) (os : List O) → AllByRecursion P os
    → AllByRecursion P (filter test os)
all_filter P test [] all = tt
all_filter P test (o ∷ os) all = grind (arith, all_filter P test os all.1)

pub all_map : {O R : Type 0} (P : O → Type 0) (Q : R → Type 0) (f : O → R) → ((o : O) → P o → Q (f o)) → (os : List O)
    → AllByRecursion P os → AllByRecursion Q (map f os)
all_map P Q f to [] all = tt
all_map P Q f to (o ∷ os) all = (to o all.0, all_map P Q f to os all.1)

pub all_entered : {O : Type 0} (P : O → Type 0) (enters : Bool) (os : List O) (o : O) → AllByRecursion P os
    → (enters ≡ true → P o) → AllByRecursion P (with_entry enters os o)
all_entered P enters os o all new = grind (arith, all_append)

pub all_become : {O : Type 0} (P : O → Type 0) (due : O → Bool) (after os : List O) → AllByRecursion P os
    → AllByRecursion P after → AllByRecursion P (first_becomes due after os)
unfolding first_becomes
all_become P due after [] all new = tt
all_become P due after (o ∷ os) all new =
    grind (arith, all_append, all_become P due after os all.1 new)

-- ---- the entry that a request asks for

pub asks_to_enter : (requested : Watch) → asks_entry requested ≡ true → requested ≡ watch.Add
asks_to_enter requested e = grind arith

-- ---- lists that functions compute

pub maps_alike : {A B C D : Type 0} (f : A → B) (g : B → D) (h : A → C) (k : C → D) (xs : List A)
    → AllByRecursion (λ x. g (f x) ≡ k (h x)) xs → map g (map f xs) ≡ map k (map h xs)
maps_alike f g h k [] same = refl
maps_alike f g h k (x ∷ xs) same = cc (same.0, maps_alike f g h k xs same.1)

pub all_stay : {A : Type 0} (f : A → A) (xs : List A) → AllByRecursion (λ x. f x ≡ x) xs → map f xs ≡ xs
all_stay f [] same = refl
all_stay f (x ∷ xs) same = cc (same.0, all_stay f xs same.1)

pub mapped_filter : {A B : Type 0} (f : A → B) (test : B → Bool) (xs : List A)
    → map f (filter (λ x. test (f x)) xs) ≡ filter test (map f xs)
mapped_filter f test [] = refl
mapped_filter f test (x ∷ xs) = grind (arith, mapped_filter f test xs)

-- ---- the first element that is due

pub found_all : {O : Type 0} (P : O → Type 0) (due : O → Bool) (os : List O) (o : O) → AllByRecursion P os
    → find due os ≡ Some o → P o
found_all P due [] o all e = absurd cc
found_all P due (p ∷ os) o all e = grind (arith, same_there p o, found_all P due os o all.1)

pub none_due : {O : Type 0} (due : O → Bool) (os : List O) → find due os ≡ None → AllByRecursion (λ o. due o ≡ false) os
none_due due [] e = tt
none_due due (o ∷ os) e = grind (arith, none_due due os)

pub none_found : {O : Type 0} (due : O → Bool) (os : List O)
    → AllByRecursion (λ o. due o ≡ false) os → find due os ≡ None
none_found due [] quiet = refl
none_found due (o ∷ os) quiet = rw quiet.0 (none_found due os quiet.1)

-- The number of elements that are due.
unfoldable pub count_due : {O : Type 0} → (O → Bool) → List O → ℕ
count_due due [] = 0
count_due due (o ∷ os) = if due o then count_due due os + 1 else count_due due os

pub count_within : {O : Type 0} (due : O → Bool) (os : List O) → count_due due os ≤ length os
unfolding count_due
count_within due [] = omega arith
count_within due (o ∷ os) = grind (arith, count_within due os)

-- If the count is zero, no element is found.
pub none_counted : {O : Type 0} (due : O → Bool) (os : List O) → count_due due os ≡ 0 → find due os ≡ None
unfolding count_due
none_counted due [] e = refl
none_counted due (o ∷ os) e = grind (arith, none_counted due os)

count_later : {O : Type 0} (due : O → Bool) (front os : List O) → count_due due front ≡ 0
    → count_due due (front ++ os) ≡ count_due due os
unfolding count_due
count_later due [] os none = refl
count_later due (q ∷ front) os none = grind (arith, count_later due front os)

-- The count decreases by one if elements that are not due replace the first due one.
pub count_less : {O : Type 0} (due : O → Bool) (os : List O) (o : O) (after : List O) → count_due due after ≡ 0
    → find due os ≡ Some o → count_due due (first_becomes due after os) + 1 ≡ count_due due os
unfolding count_due first_becomes
count_less due [] o after quiet e = absurd cc
count_less due (p ∷ os) o after quiet e =
    grind (arith, count_later, count_less due os o after quiet)
