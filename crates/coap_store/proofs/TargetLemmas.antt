-- The target of a request.
use Rattle.std.proofs.Common.{◌≡◌, ◌≢◌, ℕ, true, false, [], Option, Some, None, refl, sym, ap, ◌∙◌, arith}
use Rattle.std.proofs.lemmas.Bool.{false_from_ne_true, true_from_ne_false, both_ways}
use Rattle.coap_store.specs.Prelude.{if◌then◌else◌, Path, same_path, is_path, Representation, StoreValue, found_in}
use Rattle.coap_store.specs.Prelude.{key_for, kind_of_path, root_path, time_path, async_path, listing_path, is_dynamic}
use Rattle.coap_store.specs.Prelude.{state_at, RequestTarget, target_of, ResourceKind, Dynamic}
use Rattle.coap_path.proofs.PathLemmas.{same_path_sound}
use Rattle.coap_store.proofs.AnswerLaws.{key_is}
use Rattle.coap_store.proofs.StateLemmas.{own_key}

pub key_is_path : (path p : Path) → Some p ≡ key_for path → p ≡ path
unfolding key_for
key_is_path path p e = sym (key_is path p (sym e)).1

no_key : (path : Path) → None ≡ key_for path → is_path path ≡ false
unfolding key_for
no_key path e = grind arith

-- A list of segments that is no path is not the path of a built-in resource.
not_same : (path q : Path) → is_path path ≡ false → is_path q ≡ true → same_path path q ≡ false
not_same path q none one =
    false_from_ne_true (same_path path q)
    (λ same. both_ways (is_path path) none (ap is_path (same_path_sound path q same) ∙ one))

is_root : is_path root_path ≡ true
unfolding is_path
is_root = refl

pub is_time : is_path time_path ≡ true
unfolding is_path
is_time = refl

is_async : is_path async_path ≡ true
unfolding is_path
is_async = refl

is_listing : is_path listing_path ≡ true
unfolding is_path
is_listing = refl

pub no_key_elsewhere : (path : Path) → None ≡ key_for path → Dynamic ≡ kind_of_path path
unfolding kind_of_path
no_key_elsewhere path e = grind (arith, no_key, not_same, is_root, is_time, is_async, is_listing)

-- ---- the presence of a key

pub is_path_by_key : (path p : Path) → Some p ≡ key_for path → is_path path ≡ true
is_path_by_key path p e = let k = key_is path p (sym e) in rw k.1 k.0

pub without_key : (path : Path) → is_path path ≡ false → key_for path ≡ None
unfolding key_for
without_key path none = ap (λ b. if b then Some path else None) none

pub is_path_by_place : (path : Path) → is_dynamic (kind_of_path path) ≡ false → is_path path ≡ true
is_path_by_place path built = grind (arith, true_from_ne_false, both_ways, no_key_elsewhere, without_key)

-- The root is a built-in resource.
pub dynamic_is_named : (path : Path) → kind_of_path path ≡ Dynamic → path ≢ []
unfolding kind_of_path
dynamic_is_named path is root =
    both_ways (is_dynamic (kind_of_path path)) (ap (λ p. is_dynamic (kind_of_path p)) root) (ap is_dynamic is)

-- ---- the target

abbrev pub target_with : Option Path → ResourceKind → Option Representation → RequestTarget
target_with key place state = record { key = key; place = place; state = state }

-- The state of a built-in resource does not depend on the key.
built_state : (s : StoreValue) (now : ℕ) (place : ResourceKind) (key : Option Path) → is_dynamic place ≡ false
    → state_at s now None place ≡ state_at s now key place
unfolding state_at
built_state s now Dynamic key built = absurd cc
built_state s now _ key built = refl

pub built_target : (s : StoreValue) (now : ℕ) (path : Path) (place : ResourceKind) (state : Option Representation)
    → place ≡ kind_of_path path → is_dynamic place ≡ false → state ≡ state_at s now None place
    → target_with (Some path) place state ≡ target_of s now path
built_target s now path place state is built found = grind (arith, own_key, is_path_by_place, built_state)

pub stored_target : (s : StoreValue) (now : ℕ) (path p : Path) (state : Option Representation) → Some p ≡ key_for path
    → kind_of_path path ≡ Dynamic → state ≡ found_in s.resources p
    → target_with (Some path) Dynamic state ≡ target_of s now path
unfolding state_at
stored_target s now path p state key place found =
    rw (own_key path (is_path_by_key path p key), place, found, key_is_path path p key)

pub no_target : (s : StoreValue) (now : ℕ) (path : Path) → None ≡ key_for path → kind_of_path path ≡ Dynamic
    → target_with None Dynamic None ≡ target_of s now path
unfolding state_at
no_target s now path none place = rw (← none, place)

pub ruleset dynamic_target_steps = (own_key, without_key, stored_target, no_target)
