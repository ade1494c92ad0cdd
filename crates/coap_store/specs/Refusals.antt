-- Defined by this project: the errors of changes by the embedding program.
use Rattle.std.specs.Prelude.{◌≡◌, ℕ, Bool, not, ◌&&◌, List, [], ◌∷◌, length, Option, Some, None, Result, Ok, Err}
use Rattle.std.specs.Prelude.{is_none, nat_le, nat_lt, ◌==◌, if◌then◌else◌}
use Rattle.coap_path.specs.Paths.{Path}
use Rattle.coap_store.specs.Store.{StoreValue, found_in}
use Rattle.coap_path.specs.ResourceKinds.{kind_of_path, is_dynamic}
use Rattle.coap_store.specs.Answer.{greatest_version}
use Rattle.coap_store.specs.declared.fault.StoreFault.{StoreFault}
use Rattle.coap_store.specs.declared.fault.StoreFault.TheVariants.{NoSuch, TooLarge, Limit, BadPath, VersionsSpent}
use Rattle.coap_store.specs.declared.fault.StoreFault.TheVariants.{Memory}

-- The first error whose condition holds, if any.
abbrev pub first_fault : List (Bool × StoreFault) → Option StoreFault
first_fault [] = None
first_fault (f ∷ fs) = if f.0 then Some f.1 else first_fault fs

-- The error of `put`, allocation apart. The checks, in this order: the size, the path, the limit of created resources,
-- the versions.
unfoldable pub put_refusal : StoreValue → Path → List ℕ → Option StoreFault
put_refusal s path bytes =
    first_fault (
    (nat_lt s.rep_max (length bytes), TooLarge)
    ∷ (not (is_dynamic (kind_of_path path)), BadPath)
    ∷ (is_none (found_in s.resources path) && nat_le s.dynamic_max (length s.resources), Limit)
    ∷ (s.versions == greatest_version, VersionsSpent)
    ∷ [])

-- The error of `remove`: the path is that of a built-in resource, or absent.
unfoldable pub remove_refusal : StoreValue → Path → Option StoreFault
remove_refusal s path =
    first_fault ((not (is_dynamic (kind_of_path path)), NoSuch) ∷ (is_none (found_in s.resources path), NoSuch) ∷ [])

-- The error of the definitions that a failed call returned. `Memory` is none of these.
abbrev pub refusal_in : StoreFault → Option StoreFault
refusal_in NoSuch = Some NoSuch
refusal_in TooLarge = Some TooLarge
refusal_in Limit = Some Limit
refusal_in BadPath = Some BadPath
refusal_in VersionsSpent = Some VersionsSpent
refusal_in Memory = None

-- The result of a call agrees with the error, if any. The call succeeds or fails with `Memory` only if there is no
-- error. It fails with another error only if that is the error.
abbrev pub RefusedOrMemory : {T : Type 0} → Result T StoreFault → Option StoreFault → Type 0
RefusedOrMemory (Ok x) refusal = refusal ≡ None
RefusedOrMemory (Err fault) refusal = refusal ≡ refusal_in fault
