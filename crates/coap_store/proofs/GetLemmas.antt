-- The answer to a GET of a resource that exists.
use Rattle.std.proofs.Common.{◌≡◌, true, false, not, ◌&&◌, None, refl}
use Rattle.coap_store.specs.Prelude.{Representation, is_async, etag_at, ResourceKind, Async, Dynamic}
use Rattle.coap_store.specs.Prelude.{is_dynamic}

-- A built-in resource whose responses are not delayed has no ETag.
pub built_etag : (place : ResourceKind) (r : Representation) → (not (is_dynamic place) && not (is_async place)) ≡ true
    → etag_at place r ≡ None
built_etag Dynamic r built = absurd cc
built_etag _ r built = refl

pub built_prompt : (place : ResourceKind) → (not (is_dynamic place) && not (is_async place)) ≡ true
    → is_async place ≡ false
built_prompt Async built = absurd cc
built_prompt _ built = refl

pub ruleset get_steps = (built_etag, built_prompt)
