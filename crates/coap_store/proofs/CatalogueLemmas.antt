-- The map of the resources agrees with their list.
use Rattle.std.proofs.Common.{◌≡◌, ℕ, zero, suc, ◌<◌, Bool, true, false, List, [], ◌∷◌, ◌++◌, length, Option, Some}
use Rattle.std.proofs.Common.{None, refl, sym, ap, ◌∙◌, arith}
use Rattle.std.specs.Prelude.{position}
use Rattle.std.specs.List.{remove}
use Rattle.std.specs.Map.{keys_of}
use Rattle.coap_store.specs.Prelude.{option_map, not, nat_eq, option_eq, lookup, insert_entry, set_value_at, Path}
use Rattle.coap_store.specs.Prelude.{Representation, found_in, put_at, removed_at, entry_bytes, built_in_bytes}
use Rattle.coap_store.specs.Prelude.{first_bytes, representation, resources_in, texts_of, Resource, IsFoundAt}
use Rattle.coap_store.specs.Prelude.{replaced_at}
use Rattle.std.specs.Option.{is_some}
use Rattle.std.proofs.lemmas.Bool.{eqb-true, not-false}
use Rattle.std.proofs.lemmas.List.{length-map}
use Rattle.coap_store.specs.Store as store
use Rattle.coap_path.specs.contracts.path.PathKeyPartialEq.TheImpl as key_eq
use Rattle.coap_path.proofs.PathLemmas.{key_equality}
use Rattle.coap_store.proofs.ListingLemmas.{IsFirstAt, resources_found, resources_put, texts_created, first_at, by_head}
use Rattle.coap_store.proofs.ListingLemmas.{head_is, texts_removed, texts_count, texts_length, entry_of, text_at}
use Rattle.coap_store.proofs.ListingLemmas.{texts_kept, texts_changed}
use Rattle.coap_store.proofs.LinkLemmas.{end_within}

-- The comparison of keys in the map.
abbrev pub key_test : Path → Path → Bool
key_test = (key_eq.ghosts).eq

none_mapped : (found : Option Resource) → is_some found ≡ false → option_map representation found ≡ None
none_mapped None is = refl
none_mapped (Some r) is = absurd cc

-- The map finds the resource that the list has.
pub resources_are : (entries : List (Path × Resource)) (path : Path)
    → found_in (resources_in entries) path ≡ option_map representation (lookup (key_test path) entries)
resources_are entries path = resources_found key_test key_equality entries path

pub count_resources : (entries : List (Path × Resource)) → length (resources_in entries) ≡ length entries
unfolding resources_in
count_resources entries = length-map entries _

-- A path that is not in the map is not in the list.
pub absent_path : (entries : List (Path × Resource)) (path : Path) → is_some (lookup (key_test path) entries) ≡ false
    → found_in (resources_in entries) path ≡ None
absent_path entries path none = resources_are entries path ∙ none_mapped _ none

pub none_there : (entries : List (Path × Resource)) → entries ≡ [] → resources_in entries ≡ []
unfolding resources_in
none_there entries none = ap resources_in none

pub texts_of_none : (entries : List (Path × Resource)) → entries ≡ []
    → texts_of (first_bytes None) (resources_in entries) ≡ built_in_bytes ∷ []
unfolding resources_in texts_of first_bytes
texts_of_none entries none = ap (λ es. texts_of (first_bytes None) (resources_in es)) none

pub equal_format : (a b : Option ℕ) → option_eq nat_eq a b ≡ true → a ≡ b
equal_format None None is = refl
equal_format (Some m) (Some n) is = ap Some (eqb-true m n is)
equal_format _ _ is = absurd cc

-- Content-Formats that do not compare unequal are equal.
pub same_format : (a b : Option ℕ) → not (option_eq nat_eq a b) ≡ false → a ≡ b
same_format a b is = equal_format a b (not-false _ is)

module _ (entries after : List (Path × Resource)) (path : Path) (r : Resource)
    (is : after ≡ insert_entry key_test entries path r) where
  pub stored_list : resources_in after ≡ put_at (resources_in entries) path (representation r)
  stored_list = rw is (resources_put key_test key_equality entries path r)

  -- The text of a new resource follows those of the others.
  pub texts_of_created : (first : List ℕ) → found_in (resources_in entries) path ≡ None
      → texts_of first (resources_in after) ≡ texts_of first (resources_in entries) ++ entry_bytes path r.format ∷ []
  texts_of_created first absent =
      rw stored_list (texts_created first (resources_in entries) path (representation r) absent)

removed_none : (rs : List store.Resource) (path : Path) → found_in rs path ≡ None → removed_at rs path ≡ rs
unfolding found_in removed_at
removed_none [] path none = refl
removed_none (r ∷ rs) path none = grind (arith, removed_none rs path)

-- Removing a path that is not there changes nothing.
pub removed_absent : (entries : List (Path × Resource)) (path : Path) → is_some (lookup (key_test path) entries) ≡ false
    → removed_at (resources_in entries) path ≡ resources_in entries
removed_absent entries path none = removed_none (resources_in entries) path (absent_path entries path none)

-- ---- the resource with an index

found_first : (entries : List (Path × Resource)) (path : Path) (i : ℕ) → IsFirstAt (key_test path) entries i
    → IsFoundAt (resources_in entries) path i
unfolding resources_in
found_first [] path i first = absurd first
found_first (e ∷ es) path zero first = sym (key_equality path e.0) ∙ first
found_first (e ∷ es) path (suc i) first = (sym (key_equality path e.0) ∙ first.0, found_first es path i first.1)

-- The map finds a resource at the index that the list has.
pub found_place : (entries : List (Path × Resource)) (path : Path) (i : ℕ)
    → position (key_test path) (keys_of entries) ≡ Some i → IsFoundAt (resources_in entries) path i
found_place entries path i at = found_first entries path i (first_at (key_test path) entries i at)

pub place_within : (rs : List store.Resource) (path : Path) (i : ℕ) → IsFoundAt rs path i → i < length rs
place_within [] path i found = absurd found
place_within (r ∷ rs) path zero found = omega arith
place_within (r ∷ rs) path (suc i) found = omega (arith, place_within rs path i found.1)

pub replaced_list : (entries : List (Path × Resource)) (i : ℕ) (r : Resource)
    → resources_in (set_value_at entries i r) ≡ replaced_at (resources_in entries) i (representation r)
unfolding resources_in replaced_at
replaced_list [] i r = refl
replaced_list (e ∷ es) zero r = refl
replaced_list (e ∷ es) (suc i) r = rw (replaced_list es i r)

pub removed_index : (entries : List (Path × Resource)) (i : ℕ)
    → resources_in (remove entries i) ≡ remove (resources_in entries) i
unfolding resources_in
removed_index [] zero = refl
removed_index [] (suc i) = refl
removed_index (e ∷ es) zero = refl
removed_index (e ∷ es) (suc i) = rw (removed_index es i)

-- A representation that is stored at an index is stored at the path of its resource.
pub put_by_index : (rs : List store.Resource) (path : Path) (i : ℕ) (now : Representation) → IsFoundAt rs path i
    → replaced_at rs i now ≡ put_at rs path now
unfolding replaced_at put_at
put_by_index [] path i now found = absurd found
put_by_index (r ∷ rs) path zero now found = rw found refl
put_by_index (r ∷ rs) path (suc i) now found = rw (found.0, put_by_index rs path i now found.1)

-- The resource that is removed at an index is that at its path.
pub removed_by_index : (rs : List store.Resource) (path : Path) (i : ℕ) → IsFoundAt rs path i
    → remove rs i ≡ removed_at rs path
unfolding removed_at
removed_by_index [] path i found = absurd found
removed_by_index (r ∷ rs) path zero found = rw found refl
removed_by_index (r ∷ rs) path (suc i) found = rw (found.0, removed_by_index rs path i found.1)

pub ruleset new_steps = (none_there, texts_of_none)

pub ruleset put_steps = (absent_path, count_resources, found_place, put_by_index, by_head, head_is)

pub ruleset replace_steps = (count_resources, replaced_list, by_head, head_is)

pub ruleset remove_at_steps = (count_resources, removed_index, texts_removed, texts_count)

pub ruleset remove_steps = (removed_absent, removed_by_index)

pub ruleset create_steps = (stored_list, texts_of_created, texts_length)

pub ruleset replace_text_steps =
    (equal_format, end_within, entry_of, text_at, texts_kept, texts_changed, texts_length, texts_count)
