-- The changes by the embedding program that are rejected, and those that are not.
use Rattle.std.proofs.Common.{◌≡◌, ℕ, ◌<◌, ◌^◌, true, false, List, Option, Some, None, refl, sym, ap, arith}
use Rattle.coap_store.specs.Prelude.{is_some, is_none, not, option_map, IfSome, Bor, Path, is_path, Representation}
use Rattle.coap_store.specs.Prelude.{StoreValue, found_in, put_in, kind_of_path, is_dynamic, representation, TakesPut}
use Rattle.coap_store.specs.Prelude.{IsStore, put_refusal, remove_refusal, NoSuch}
use Rattle.std.proofs.lemmas.Bool.Decides.{nat_tests}
use Rattle.coap_store.specs.declared.resource.Resource as lent
use Rattle.coap_store.proofs.AnswerLaws.{place_dynamic, version_fits, has_room}
use Rattle.coap_store.proofs.StoreLemmas.{store_put, found_kept}

-- ---- put

-- The store accepts a representation that is not rejected.
pub takes_put : (s : StoreValue) (path : Path) (bytes : List ℕ) → is_path path ≡ true → s.versions < 2 ^ 64
    → put_refusal s path bytes ≡ None → TakesPut s path bytes
unfolding put_refusal
takes_put s path bytes is fits none = grind (arith, place_dynamic, nat_tests, has_room, version_fits)

pub put_keeps : (s : StoreValue) (path : Path) (format : Option ℕ) (bytes : List ℕ) → IsStore s → is_path path ≡ true
    → put_refusal s path bytes ≡ None → IfSome format (λ number. number < 65536) → IsStore (put_in s path format bytes)
put_keeps s path format bytes is path_ok none short =
    store_put s path format bytes is (takes_put s path bytes path_ok is.versions none) short

-- ---- remove

-- A resource is borrowed if and only if a representation is found.
lent_alike : (lent : Option (Bor lent.Resource)) (found : Option Representation)
    → option_map (λ r. representation r.now) lent ≡ found → is_none lent ≡ is_none found
lent_alike None found same = ap is_none same
lent_alike (Some r) found same = ap is_none same

pub remove_absent : (s : StoreValue) (path : Path) (lent : Option (Bor lent.Resource))
    → option_map (λ r. representation r.now) lent ≡ found_in s.resources path → is_none lent ≡ true
    → remove_refusal s path ≡ Some NoSuch
unfolding remove_refusal
remove_absent s path lent same none = grind (arith, lent_alike lent (found_in s.resources path) same)

found_dynamic : (s : StoreValue) (path : Path) (found : Option Representation) → IsStore s
    → found_in s.resources path ≡ found → is_none found ≡ false → not (is_dynamic (kind_of_path path)) ≡ false
found_dynamic s path None is same some = absurd cc
found_dynamic s path (Some r) is same some = ap (λ place. not (is_dynamic place)) (found_kept s path r is same).place

pub remove_present : (s : StoreValue) (path : Path) (lent : Option (Bor lent.Resource)) → IsStore s
    → option_map (λ r. representation r.now) lent ≡ found_in s.resources path → is_none lent ≡ false
    → remove_refusal s path ≡ None
unfolding remove_refusal
remove_present s path lent is same some = grind (arith, lent_alike, found_dynamic)

-- A resource is removed if and only if one is found.
pub removal_reported : (s : StoreValue) (path : Path) (lent : Option (Bor lent.Resource)) → IsStore s
    → option_map (λ r. representation r.now) lent ≡ found_in s.resources path
    → is_some lent ≡ is_none (remove_refusal s path)
removal_reported s path None is same = ap is_none (sym (remove_absent s path None same refl))
removal_reported s path (Some r) is same = ap is_none (sym (remove_present s path (Some r) is same refl))
