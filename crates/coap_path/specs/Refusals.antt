-- Defined by this project: the errors of entries.
use Rattle.std.specs.Prelude.{◌≡◌, ℕ, Bool, not, List, [], ◌∷◌, ◌++◌, length, Option, Some, None, Result, Ok, Err}
use Rattle.std.specs.Prelude.{nat_le, ◌==◌, if◌then◌else◌}
use Rattle.coap_path.specs.Paths.{Path}
use Rattle.coap_path.specs.ResourceKinds.{kind_of_path, is_dynamic}
use Rattle.coap_path.specs.Applications.{ApplicationEntryValue, ApplicationsValue}
use Rattle.coap_path.specs.Invariant.{has_prefix}
use Rattle.coap_path.specs.Methods.{are_methods}
use Rattle.coap_path.specs.Attributes.{are_attributes}
use Rattle.coap_path.specs.declared.fault.ApplicationFault.{ApplicationFault}
use Rattle.coap_path.specs.declared.fault.ApplicationFault.TheVariants.{Full, Root, BuiltIn, Twice, Method, Attributes}
use Rattle.coap_path.specs.declared.fault.ApplicationFault.TheVariants.{Memory}

-- The first error whose condition holds, if any.
abbrev pub first_fault : List (Bool × ApplicationFault) → Option ApplicationFault
first_fault [] = None
first_fault (f ∷ fs) = if f.0 then Some f.1 else first_fault fs

-- The error of `add`, allocation apart. The checks, in this order: the number of entries, the prefix, the methods, the
-- attributes.
unfoldable pub entry_refusal : List ApplicationEntryValue → Path → List ℕ → List ℕ → Option ApplicationFault
entry_refusal entries prefix methods attributes =
    first_fault (
    (nat_le 16 (length entries), Full)
    ∷ (length prefix == 0, Root)
    ∷ (not (is_dynamic (kind_of_path prefix)), BuiltIn)
    ∷ (has_prefix entries prefix, Twice)
    ∷ (not (are_methods methods), Method)
    ∷ (not (are_attributes attributes), Attributes)
    ∷ [])

-- The error of the definitions that a failed call returned. `Memory` is none of these.
abbrev pub refusal_in : ApplicationFault → Option ApplicationFault
refusal_in Full = Some Full
refusal_in Root = Some Root
refusal_in BuiltIn = Some BuiltIn
refusal_in Twice = Some Twice
refusal_in Method = Some Method
refusal_in Attributes = Some Attributes
refusal_in Memory = None

-- The result of a call agrees with the error, if any. The call succeeds or fails with `Memory` only if there is no
-- error. It fails with another error only if that is the error.
abbrev pub RefusedOrMemory : {T : Type 0} → Result T ApplicationFault → Option ApplicationFault → Type 0
RefusedOrMemory (Ok x) refusal = refusal ≡ None
RefusedOrMemory (Err fault) refusal = refusal ≡ refusal_in fault

-- The entries with another one at the end.
abbrev pub with_entry : ApplicationsValue → Path → List ℕ → List ℕ → ApplicationsValue
with_entry v prefix methods attributes = record {
  deadline = v.deadline;
  entries = v.entries ++ record { prefix = prefix; methods = methods; attributes = attributes } ∷ [];
}
