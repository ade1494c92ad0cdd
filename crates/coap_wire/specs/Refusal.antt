-- Defined by this project: the error that a call returns.
use Rattle.std.specs.Prelude.{◌≡◌, Option, Some, None, Result, Ok, Err}

-- A call fails with this error, or succeeds if it is `None`.
abbrev pub RefusedBy : {T E : Type 0} → Result T E → Option E → Type 0
RefusedBy (Ok x) refusal = refusal ≡ None
RefusedBy (Err e) refusal = refusal ≡ Some e
