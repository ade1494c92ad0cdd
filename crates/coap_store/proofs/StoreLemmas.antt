-- Each change keeps the invariant of a store, and stored resources satisfy it.
use Rattle.std.proofs.Common.{◌≡◌, ◌≢◌, ℕ, ◌+◌, ◌<◌, ◌≤◌, ◌^◌, true, ◌||◌, List, [], ◌∷◌, length, Option, Some, None}
use Rattle.std.proofs.Common.{refl, sym, arith, nat_lt, rules}
use Rattle.coap_store.specs.Prelude.{IfSome, option_map, Bor, AllByRecursion, Path, same_path, Representation}
use Rattle.coap_store.specs.Prelude.{StoreValue, found_in, put_at, removed_at, put_in, removed_in, listing}
use Rattle.coap_store.specs.Prelude.{representation, Change, Nothing, Put, Delete, changed, TakesPut, TakesChange}
use Rattle.coap_store.specs.Prelude.{is_path, HasSmallFormat, HaveOwnVersions, IsKept, IsStore, ApplicationsValue}
use Rattle.coap_store.specs.Prelude.{first_bytes}
use Rattle.std.specs.Option.{is_some}
use Rattle.std.proofs.lemmas.Bool.{cond_both}
use Rattle.std.proofs.lemmas.Bool.Decides.{nat_tests}
use Rattle.std.proofs.lemmas.Option.{same_Some}
use Rattle.coap_store.specs.Store.{Resource}
use Rattle.coap_store.specs.declared.resource.Resource as lent
use Rattle.coap_path.proofs.PathLemmas.{same_path_sound}
use Rattle.coap_store.proofs.ListingLemmas.{listing_bound}
use Rattle.coap_store.proofs.AnswerLaws.{either}
use Rattle.coap_store.proofs.ChangeLaws.{put_distinct, removed_distinct}
use Rattle.coap_store.proofs.LinkLemmas.{entry_short}
use Rattle.coap_store.proofs.CatalogueLemmas.{place_within, put_by_index, removed_by_index}

-- ---- each resource

all_resources_to : (P Q : Resource → Type 0) → ((r : Resource) → P r → Q r) → (rs : List Resource)
    → AllByRecursion P rs → AllByRecursion Q rs
all_resources_to P Q to [] all = tt
all_resources_to P Q to (r ∷ rs) all = (to r all.0, all_resources_to P Q to rs all.1)

module _ (P : Resource → Type 0) where
  -- A property of each resource holds for a resource that is found.
  pub holds_of_found : (rs : List Resource) (path : Path) (now : Representation) → AllByRecursion P rs
      → found_in rs path ≡ Some now → P (record { path = path; now = now })
  unfolding found_in
  holds_of_found [] path now all is = absurd cc
  holds_of_found (r ∷ rs) path now all is =
      either (same_path path r.path)
      (λ same. rw (same_path_sound path r.path same, ← same_Some _ _ (rw same at is)) all.0)
      (λ other. holds_of_found rs path now all.1 (rw other at is))

  pub put_all : (rs : List Resource) (path : Path) (now : Representation) → AllByRecursion P rs
      → P (record { path = path; now = now }) → AllByRecursion P (put_at rs path now)
  unfolding put_at
  put_all [] path now all here = (here, tt)
  put_all (r ∷ rs) path now all here =
      cond_both (same_path path r.path) _ _ (AllByRecursion P)
      (λ is. (rw (same_path_sound path r.path is) at here, all.1)) (λ _. (all.0, put_all rs path now all.1 here))

  pub removed_all : (rs : List Resource) (path : Path) → AllByRecursion P rs → AllByRecursion P (removed_at rs path)
  unfolding removed_at
  removed_all [] path all = all
  removed_all (r ∷ rs) path all =
      cond_both (same_path path r.path) _ _ (AllByRecursion P) (λ _. all.1) (λ _. (all.0, removed_all rs path all.1))

-- ---- no version occurs twice

-- The version differs from that of `r`.
abbrev HasOther : ℕ → Resource → Type 0
HasOther version r = version ≢ r.now.version

put_own : (rs : List Resource) (path : Path) (now : Representation) → AllByRecursion (HasOther now.version) rs
    → HaveOwnVersions rs → HaveOwnVersions (put_at rs path now)
unfolding put_at
put_own [] path now fresh own = (tt, tt)
put_own (r ∷ rs) path now fresh own = grind (arith, cond_both, put_all, put_own rs path now fresh.1 own.1)

removed_own : (rs : List Resource) (path : Path) → HaveOwnVersions rs → HaveOwnVersions (removed_at rs path)
unfolding removed_at
removed_own [] path own = own
removed_own (r ∷ rs) path own = grind (arith, cond_both, removed_all, removed_own rs path own.1)

-- Two representations with the same version are the same.
pub one_version : (rs : List Resource) (p q : Path) (a b : Representation) → HaveOwnVersions rs → found_in rs p ≡ Some a
    → found_in rs q ≡ Some b → a.version ≡ b.version → (p ≡ q) × (a ≡ b)
unfolding found_in
one_version [] p q a b own at_p at_q same = absurd cc
one_version (r ∷ rs) p q a b own at_p at_q same =
    grind (
      arith,
      same_path_sound p r.path,
      same_path_sound q r.path,
      holds_of_found (HasOther r.now.version) rs q b own.0,
      holds_of_found (HasOther r.now.version) rs p a own.0,
      one_version rs p q a b own.1,
    )

-- ---- the number of resources

put_present : (rs : List Resource) (path : Path) (now : Representation) → is_some (found_in rs path) ≡ true
    → length (put_at rs path now) ≡ length rs
unfolding found_in put_at
put_present [] path now present = absurd cc
put_present (r ∷ rs) path now present = grind (arith, put_present rs path now)

put_more : (rs : List Resource) (path : Path) (now : Representation) → length (put_at rs path now) ≤ length rs + 1
unfolding put_at
put_more [] path now = omega arith
put_more (r ∷ rs) path now = grind (arith, put_more rs path now)

-- The resource exists, or the limit allows another one.
pub put_few : (rs : List Resource) (path : Path) (now : Representation) (slots : ℕ)
    → (is_some (found_in rs path) || nat_lt (length rs) slots) ≡ true → length rs ≤ slots
    → length (put_at rs path now) ≤ slots
put_few rs path now slots room few = grind (arith, nat_tests, put_present rs path now, put_more rs path now)

pub removed_few : (rs : List Resource) (path : Path) → length (removed_at rs path) ≤ length rs
unfolding removed_at
removed_few [] path = omega arith
removed_few (r ∷ rs) path = grind (arith, removed_few rs path)

-- ---- the store

-- Storing a representation that the store accepts keeps the invariant.
pub store_put : (s : StoreValue) (path : Path) (format : Option ℕ) (bytes : List ℕ) → IsStore s → TakesPut s path bytes
    → IfSome format (λ f. f < 65536) → IsStore (put_in s path format bytes)
store_put s path format bytes is takes short =
    grind (arith, all_resources_to, put_distinct, put_own, put_all, put_few, takes.room)

pub store_removed : (s : StoreValue) (path : Path) → IsStore s → IsStore (removed_in s path)
store_removed s path is = grind (arith, removed_distinct, removed_own, removed_all, removed_few)

pub store_changed : (s : StoreValue) (c : Change) → IsStore s → TakesChange s c
    → HasSmallFormat c → IsStore (changed s c)
store_changed s Nothing is takes short = is
store_changed s (Put path format bytes) is takes short = store_put s path format bytes is takes short
store_changed s (Delete path) is takes short = store_removed s path is

pub store_empty : (dynamic_max rep_max versions : ℕ) (applications : Option ApplicationsValue) → dynamic_max ≤ 1000
    → rep_max ≤ 1048576 → versions < 2 ^ 64
    → IsStore (record {
      dynamic_max = dynamic_max;
      rep_max = rep_max;
      resources = [];
      versions = versions;
      applications = applications;
    })
store_empty dynamic_max rep_max versions applications most largest fits = search (rules, arith)

-- A resource that is found has the property of stored resources.
pub found_kept : (s : StoreValue) (path : Path) (now : Representation) → IsStore s
    → found_in s.resources path ≡ Some now → IsKept s.versions s.rep_max (record { path = path; now = now })
found_kept s path now is found = holds_of_found (IsKept s.versions s.rep_max) s.resources path now is.kept found

-- A path that is found is that of a resource.
pub found_is_path : (s : StoreValue) (path : Path) → IsStore s → is_some (found_in s.resources path) ≡ true
    → is_path path ≡ true
found_is_path s path kept found = by (found_in s.resources path) refl found
  where
    by : (o : Option Representation) → found_in s.resources path ≡ o → is_some o ≡ true → is_path path ≡ true
    by None e f = absurd cc
    by (Some r) e f = (found_kept s path r kept e).path

pub stored_small : (s : StoreValue) → IsStore s → (path : Path) (r : Representation)
    → found_in s.resources path ≡ Some r → length r.bytes ≤ 1048576
stored_small s is path r found = let kept = found_kept s path r is found in omega (arith, kept.small, is.largest)

-- A resource that the catalogue returns is small.
pub lent_small : (s : StoreValue) (path : Path) (found : Option (Bor lent.Resource)) → IsStore s
    → option_map (λ r. representation r.now) found ≡ found_in s.resources path
    → IfSome found (λ r. length r.now.bytes.items ≤ 1048576)
lent_small s path None is same = tt
lent_small s path (Some r) is same = stored_small s is path (representation r.now) (sym same)

-- The listing of a store whose application has a short text.
pub listing_short : (s : StoreValue) (applications : Option ApplicationsValue) → IsStore s
    → length (first_bytes applications) ≤ 16423 → length (listing applications s.resources) ≤ 1048576
listing_short s applications is short = grind (arith, listing_bound, all_resources_to)

pub bare_listing_short : (s : StoreValue) → IsStore s → length (listing None s.resources) ≤ 1048576
unfolding first_bytes
bare_listing_short s is = listing_short s None is (omega arith)

pub ruleset store_steps = (entry_short, store_put, bare_listing_short)

pub ruleset replace_steps = (place_within, put_by_index, store_put, bare_listing_short)

pub ruleset delete_at_steps = (place_within, removed_by_index, store_removed)
