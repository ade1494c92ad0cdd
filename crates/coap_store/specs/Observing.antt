-- RFC 7641 section 4.1: the answers that register an observer.
use Rattle.std.specs.Prelude.{◌≡◌, ◌⊎◌, ℕ, true, Some}
use Rattle.coap_wire.specs.Codes as code
use Rattle.coap_path.specs.Paths.{Path}
use Rattle.coap_store.specs.Store.{Representation, StoreValue}
use Rattle.coap_path.specs.ResourceKinds.{kind_of_path, is_observable}
use Rattle.coap_store.specs.State.{key_for, state_of}
use Rattle.coap_store.specs.Answer.{Answer, Nothing}

-- An answer may register an observer: the resource exists and is observable. The answer changes nothing and is 2.05 or
-- 2.03.
pub record MayObserve (s : StoreValue) (now : ℕ) (path : Path) (a : Answer) : Type 0 where
  pub representation : Representation
  pub there : state_of s now path ≡ Some representation
  pub key : key_for path ≡ Some path
  pub observable : is_observable (kind_of_path path) ≡ true
  pub quiet : a.change ≡ Nothing
  pub code : (a.response.code ≡ code.content) ⊎ (a.response.code ≡ code.valid)
