-- The state of a path by its key.
use Rattle.std.proofs.Common.{◌≡◌, ℕ, ◌+◌, true, List, Option, Some, None, ap, ◌∙◌}
use Rattle.std.proofs.lemmas.Bool.{cond-true}
use Rattle.coap_store.specs.Prelude.{Path, is_path, StoreValue, found_in, put_in, removed_in, is_dynamic, kind_of_path}
use Rattle.coap_store.specs.Prelude.{key_for, stored_at, state_at, state_of, AreDistinct, ResourceKind, Dynamic}
use Rattle.coap_store.proofs.AnswerLaws.{state_dynamic}
use Rattle.coap_store.proofs.ChangeLaws.{put_is_stored, deleted_is_gone}

pub own_key : (path : Path) → is_path path ≡ true → key_for path ≡ Some path
unfolding key_for
own_key path is = cond-true (is_path path) (Some path) None is

pub state_by_key : (s : StoreValue) (now : ℕ) (path : Path) (place : ResourceKind) → is_path path ≡ true
    → place ≡ kind_of_path path → state_at s now (Some path) place ≡ state_of s now path
state_by_key s now path place is at = rw (at, own_key path is)

-- The state of a created resource is its stored representation.
pub state_stored : (s : StoreValue) (now : ℕ) (path : Path) → is_path path ≡ true → kind_of_path path ≡ Dynamic
    → state_of s now path ≡ found_in s.resources path
state_stored s now path is place =
    state_dynamic s now (key_for path) (kind_of_path path) (ap is_dynamic place) ∙ ap (stored_at s) (own_key path is)

pub state_put : (s : StoreValue) (now : ℕ) (path : Path) (format : Option ℕ) (bytes : List ℕ) → is_path path ≡ true
    → kind_of_path path ≡ Dynamic → state_of (put_in s path format bytes) now path
    ≡ Some (record { version = s.versions + 1; format = format; bytes = bytes })
state_put s now path format bytes is place =
    state_stored (put_in s path format bytes) now path is place ∙ put_is_stored s path format bytes

pub state_removed : (s : StoreValue) (now : ℕ) (path : Path) → AreDistinct s.resources → is_path path ≡ true
    → kind_of_path path ≡ Dynamic → state_of (removed_in s path) now path ≡ None
state_removed s now path distinct is place =
    state_stored (removed_in s path) now path is place ∙ deleted_is_gone s path distinct
