-- A version identifies a representation, even if that is no longer stored.
use Rattle.std.proofs.Common.{◌≡◌, Some, arith}
use Rattle.std.proofs.lemmas.Option.{same_Some, none-some}
use Rattle.coap_store.specs.Prelude.{Path, Representation, StoreValue, found_in, Change, Nothing, Put, Delete, changed}
use Rattle.coap_store.specs.Prelude.{IsStore, WasStored}
use Rattle.coap_store.proofs.StoreLemmas.{one_version, found_kept}
use Rattle.coap_store.proofs.ChangeLaws.{put_is_stored, other_is_kept_on_put, other_is_kept_on_delete, deleted_is_gone}
use Rattle.coap_store.proofs.VersionLaws.{by_path}

pub is_stored : (s : StoreValue) (path : Path) (sent : Representation) → IsStore s
    → found_in s.resources path ≡ Some sent → WasStored s path sent
is_stored s path sent is found = record {
  given = (found_kept s path sent is found).given;
  same = λ other r at versions. one_version s.resources other path r sent is.own_versions at found versions;
}

pub was_stored : (s : StoreValue) (change : Change) (path : Path) (sent : Representation) → IsStore s
    → WasStored s path sent → WasStored (changed s change) path sent
was_stored s Nothing path sent is was = was
was_stored s (Put at format bytes) path sent is was =
    grind (arith, by_path, same_Some, put_is_stored, was.same, other_is_kept_on_put)
was_stored s (Delete at) path sent is was =
    grind (arith, by_path, none-some, deleted_is_gone, was.same, other_is_kept_on_delete)
