-- Defined by this project: what the calls of this crate return.
use Rattle.std.specs.Prelude.{◌≡◌, Result, Ok, Err}
use Rattle.directory_registry.specs.Registrations.{RegistryValue}
use Rattle.directory_core.specs.declared.refusal.Refusal.{Refusal}
use Rattle.directory_core.specs.declared.reply.Reply.{Reply}
use Rattle.directory_core.specs.declared.reply.Reply.TheVariants as reply
use Rattle.directory_core.specs.declared.request_error.RequestError.{RequestError}
use Rattle.directory_core.specs.declared.request_error.RequestError.TheVariants.{Refused, Memory}

-- The reply to a request that changes nothing for this reason.
abbrev pub reply_of_error : RequestError → Reply
reply_of_error (Refused e) = reply.Refused e
reply_of_error Memory = reply.OutOfMemory

-- A call returns the value or the refusal of `read`, if `view` gives what contracts see for the value.
abbrev pub Gives : {X Y : Type 0} → (X → Y) → Result X Refusal → Result Y Refusal → Type 0
Gives view (Ok x) read = read ≡ Ok (view x)
Gives view (Err e) read = read ≡ Err e

-- The same for a call that allocates. If allocation fails, nothing is stated.
abbrev pub GivesUnlessMemory : {X Y : Type 0} → (X → Y) → Result X RequestError → Result Y Refusal → Type 0
GivesUnlessMemory view (Ok x) read = read ≡ Ok (view x)
GivesUnlessMemory view (Err (Refused e)) read = read ≡ Err e
GivesUnlessMemory view (Err Memory) read = Unit {0}

-- A registration returns the value of `made` and leaves its registrations. Or it returns the refusal of `made`, or that
-- allocation failed, and changes nothing.
abbrev pub Changes : {X Y : Type 0} → (X → Y) → Result X RequestError → RegistryValue → RegistryValue
    → Result (Y × RegistryValue) Refusal → Type 0
Changes view (Ok x) old new made = made ≡ Ok (view x, new)
Changes view (Err (Refused e)) old new made = (made ≡ Err e) × (new ≡ old)
Changes view (Err Memory) old new made = new ≡ old

-- An update has the result and leaves the registrations of `made`, or changes nothing because allocation failed.
abbrev pub Updates : Result (Unit {0}) RequestError → RegistryValue → RegistryValue
    → Result (Unit {0}) Refusal × RegistryValue → Type 0
Updates (Ok u) old new made = made ≡ (Ok u, new)
Updates (Err (Refused e)) old new made = made ≡ (Err e, new)
Updates (Err Memory) old new made = new ≡ old
