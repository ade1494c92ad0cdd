-- The list of the registrations, the labels and the earliest end after a change.
use Rattle.std.proofs.Common.{◌≡◌, ℕ, ◌≤◌, ◌<◌, Bool, true, List, [], ◌∷◌, map, filter, Option, Some}
use Rattle.std.proofs.Common.{None, option_map, refl, ap, arith, nat_eq, nat_le, nat_lt}
use Rattle.std.proofs.Common.{is_some}
use Rattle.std.specs.List.{list_any, fold}
use Rattle.std.specs.Ordering.{nat_cmp}
use Rattle.std.specs.Map.{lookup, set_value, remove_entry}
use Rattle.std.specs.BTreeMap.{insert_entry}
use Rattle.std.proofs.lemmas.Bool.{cond_both, eqb-false, le-leb}
use Rattle.std.proofs.lemmas.Bool.Decides.{nat_tests}
use Rattle.directory_registry.specs.Prelude.{RegistrationValue, found_at, registration_of, without_location}
use Rattle.directory_registry.specs.Prelude.{with_change}
use Rattle.directory_registry.specs.Prelude.{packed}
use Rattle.directory_registry.specs.Prelude.{Each, is_number, without_label}
use Rattle.directory_registry.specs.declared.registration.Stored.{Stored}
use Rattle.directory_registry.proofs.EntryLemmas.{each_map, each_both}
use Rattle.directory_registry.proofs.EntryLemmas.{each_filter}
use Rattle.directory_registry.proofs.EntryLemmas.{each_self, lookup_kept}
use Rattle.directory_registry.proofs.RegistryLemmas.{Key, same, Indexed, views, all_after}

-- ---- the labels

-- Another label stays.
lookup_removed : (p q : ℕ) → (p ≡ q → ⊥) → (ls : List (ℕ × ℕ))
    → lookup (is_number q) (remove_entry (is_number p) ls) ≡ lookup (is_number q) ls
lookup_removed p q other [] = refl
lookup_removed p q other (e ∷ ls) = grind (arith, nat_tests, other, lookup_removed p q other ls)

pub forgot : (o : Option ℕ) (label n q : ℕ) (ls : List (ℕ × ℕ)) → ((old : ℕ) → (old ≡ label → ⊥) → packed old n ≡ q → ⊥)
    → lookup (is_number q) (without_label o label n ls) ≡ lookup (is_number q) ls
forgot None label n q ls other = refl
forgot (Some old) label n q ls other =
    cond_both (nat_eq old label) _ _ (λ t. lookup (is_number q) t ≡ lookup (is_number q) ls) (λ i. refl)
    (λ i. lookup_removed (packed old n) q (other old (eqb-false old label i)) ls)

-- ---- the list

same_test : (next : ℕ) (ns : List (Key × ℕ)) (ls : List (ℕ × ℕ)) (n : ℕ) (e : ℕ × Stored) → Indexed next ns ls e
    → nat_eq e.1.registration.number n ≡ is_number n e.0
same_test next ns ls n e i = grind (arith, nat_tests, i.number)

pub location_viewed : (next : ℕ) (ns : List (Key × ℕ)) (ls : List (ℕ × ℕ)) (n : ℕ) (es : List (ℕ × Stored))
    → Each (Indexed next ns ls) es → list_any (λ e. nat_eq e.1.number n) (views es) ≡ is_some (lookup (is_number n) es)
location_viewed next ns ls n [] all = refl
location_viewed next ns ls n (e ∷ es) all =
    grind (arith, same_test next ns ls n e all.0, location_viewed next ns ls n es all.1)

pub found_view : (next : ℕ) (ns : List (Key × ℕ)) (ls : List (ℕ × ℕ)) (n : ℕ) (es : List (ℕ × Stored))
    → Each (Indexed next ns ls) es
    → found_at (views es) n ≡ option_map (λ s. registration_of s.registration) (lookup (is_number n) es)
found_view next ns ls n [] all = refl
found_view next ns ls n (e ∷ es) all = grind (arith, same_test next ns ls n e all.0, found_view next ns ls n es all.1)

pub removed_view : (next : ℕ) (ns : List (Key × ℕ)) (ls : List (ℕ × ℕ)) (n : ℕ) (es : List (ℕ × Stored))
    → Each (Indexed next ns ls) es → views (remove_entry (is_number n) es) ≡ without_location (views es) n
removed_view next ns ls n [] all = refl
removed_view next ns ls n (e ∷ es) all =
    grind (arith, same_test next ns ls n e all.0, removed_view next ns ls n es all.1)

pub changed_view : (change : RegistrationValue → RegistrationValue) (next : ℕ) (ns : List (Key × ℕ)) (ls : List (ℕ × ℕ))
    (n : ℕ) (s old : Stored) → s.key ≡ old.key
    → registration_of s.registration ≡ change (registration_of old.registration)
    → (es : List (ℕ × Stored)) → Each (Indexed next ns ls) es → lookup (is_number n) es ≡ Some old
    → views (set_value (is_number n) es s) ≡ with_change change n (views es)
changed_view change next ns ls n s old k is [] all there = refl
changed_view change next ns ls n s old k is (e ∷ es) all there =
    grind (
      arith,
      k,
      is,
      there,
      same_test next ns ls n e all.0,
      λ (h : lookup (is_number n) es ≡ Some old). changed_view change next ns ls n s old k is es all.1 h,
    )

pub absent_change : (change : RegistrationValue → RegistrationValue) (next : ℕ) (ns : List (Key × ℕ))
    (ls : List (ℕ × ℕ)) (n : ℕ) (es : List (ℕ × Stored)) → Each (Indexed next ns ls) es → lookup (is_number n) es ≡ None
    → with_change change n (views es) ≡ views es
absent_change change next ns ls n [] all none = refl
absent_change change next ns ls n (e ∷ es) all none =
    grind (
      arith,
      none,
      same_test next ns ls n e all.0,
      λ (h : lookup (is_number n) es ≡ None). absent_change change next ns ls n es all.1 h,
    )

pub absent_removal : (next : ℕ) (ns : List (Key × ℕ)) (ls : List (ℕ × ℕ)) (n : ℕ) (es : List (ℕ × Stored))
    → Each (Indexed next ns ls) es → lookup (is_number n) es ≡ None → without_location (views es) n ≡ views es
absent_removal next ns ls n [] all none = refl
absent_removal next ns ls n (e ∷ es) all none =
    grind (
      arith,
      none,
      same_test next ns ls n e all.0,
      λ (h : lookup (is_number n) es ≡ None). absent_removal next ns ls n es all.1 h,
    )

-- ---- the earliest end

pub earlier_still : (m n : ℕ) (es : List (ℕ × Stored)) → m ≤ n → all_after n es ≡ true → all_after m es ≡ true
earlier_still m n [] h all = refl
earlier_still m n (e ∷ es) h all = grind (arith, h, all, λ (k : all_after n es ≡ true). earlier_still m n es h k)

after_stored : (m n : ℕ) (s : Stored) (es : List (ℕ × Stored)) → all_after m es ≡ true
    → nat_le m s.registration.deadline ≡ true → all_after m (insert_entry nat_cmp es n s) ≡ true
after_stored m n s [] all new = rw new refl
after_stored m n s (e ∷ es) all new =
    grind (arith, nat_tests, all, new, λ (k : all_after m es ≡ true). after_stored m n s es k new)

-- The earliest end after a registration was stored.
pub after_insert : (m o n : ℕ) (s : Stored) (es : List (ℕ × Stored)) → all_after o es ≡ true → m ≤ o
    → m ≤ s.registration.deadline → all_after m (insert_entry nat_cmp es n s) ≡ true
after_insert m o n s es all h new =
    after_stored m n s es (earlier_still m o es h all) (le-leb m s.registration.deadline new)

after_set : (m n : ℕ) (s : Stored) (es : List (ℕ × Stored)) → all_after m es ≡ true
    → nat_le m s.registration.deadline ≡ true → all_after m (set_value (is_number n) es s) ≡ true
after_set m n s [] all new = refl
after_set m n s (e ∷ es) all new = grind (arith, all, new, λ (k : all_after m es ≡ true). after_set m n s es k new)

-- The earliest end after a registration was renewed.
pub after_change : (m o n : ℕ) (s : Stored) (es : List (ℕ × Stored)) → all_after o es ≡ true → m ≤ o
    → m ≤ s.registration.deadline → all_after m (set_value (is_number n) es s) ≡ true
after_change m o n s es all h new =
    after_set m n s es (earlier_still m o es h all) (le-leb m s.registration.deadline new)

-- No registration ends before the earliest end.
pub after_there : (m n : ℕ) (old : Stored) (es : List (ℕ × Stored)) → all_after m es ≡ true
    → lookup (is_number n) es ≡ Some old → m ≤ old.registration.deadline
after_there m n old [] all h = absurd cc
after_there m n old (e ∷ es) all h =
    grind (
      arith,
      all,
      h,
      λ (k : all_after m es ≡ true) (i : lookup (is_number n) es ≡ Some old). after_there m n old es k i,
    )

-- The earliest end after a registration was removed.
pub after_remove : (m n : ℕ) (es : List (ℕ × Stored)) → all_after m es ≡ true
    → all_after m (remove_entry (is_number n) es) ≡ true
after_remove m n [] all = refl
after_remove m n (e ∷ es) all = grind (arith, all, λ (k : all_after m es ≡ true). after_remove m n es k)

-- ---- the end of registrations

-- The registrations that have not ended.
abbrev pub alive : ℕ → ℕ × Stored → Bool
alive now e = nat_lt now e.1.registration.deadline

-- The map and the list keep the same registrations.
pub kept_view : (now : ℕ) (es : List (ℕ × Stored))
    → views (filter (alive now) es) ≡ filter (λ e. nat_lt now e.1.deadline) (views es)
kept_view now [] = refl
kept_view now (e ∷ es) = grind (arith, kept_view now es)

-- Nothing has ended before the earliest time.
pub none_ended : (now m : ℕ) (es : List (ℕ × Stored)) → now < m → all_after m es ≡ true
    → views es ≡ filter (λ e. nat_lt now e.1.deadline) (views es)
none_ended now m [] h all = refl
none_ended now m (e ∷ es) h all = grind (arith, h, all, λ (k : all_after m es ≡ true). none_ended now m es h k)

-- A number is among those of the entries.
abbrev pub is_there : List (ℕ × Stored) → ℕ → Bool
is_there es n = is_some (lookup (is_number n) es)

-- The registrations that are left stay indexed, if no number of theirs was removed.
pub kept_indexed : (next : ℕ) (ns : List (Key × ℕ)) (ls : List (ℕ × ℕ)) (keep : ℕ × Stored → Bool)
    (es : List (ℕ × Stored)) → Each (Indexed next ns ls) es
    → Each (Indexed next (filter (λ p. is_there (filter keep es) p.1) ns)
    (filter (λ p. is_there (filter keep es) p.1) ls)) (filter keep es)
kept_indexed next ns ls keep es all =
    each_map (λ (e : ℕ × Stored). Indexed next ns ls e
    × ((x : Stored) × (lookup (is_number e.0) (filter keep es) ≡ Some x))) _
    (λ e h.
    let i = h.0 in
    let there : is_there (filter keep es) e.0 ≡ true = ap is_some h.1.1 in
    record {
      number = i.number;
      below = i.below;
      key = lookup_kept (same e.1.key.items) (is_there (filter keep es)) e.0 there ns i.key;
      found = record {
        small = i.found.small;
        label = lookup_kept _
            (is_there (filter keep es)) e.0 there ls i.found.label;
      };
    })
    (filter keep es)
    (each_both (Indexed next ns ls)
    (λ (e : ℕ × Stored). (x : Stored) × (lookup (is_number e.0) (filter keep es) ≡ Some x)) (filter keep es)
    (each_filter (Indexed next ns ls) keep es all) (each_self (filter keep es)))

-- ---- all registrations

-- The next registrations, in order.
pub fold_view : {V : Type 0} (f : V → RegistrationValue → V) (v : V) (es : List (ℕ × Stored))
    → fold (λ w e. f w (registration_of e.1.registration)) v es ≡ fold f v (map (λ e. e.1) (views es))
fold_view f v [] = refl
fold_view f v (e ∷ es) = fold_view f (f v (registration_of e.1.registration)) es
