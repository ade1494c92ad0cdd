-- Defined by this project: raising the maximum frame size, for a new Max-Message-Size (RFC 8323 section 5.3.1).
use Rattle.std.specs.Prelude.{◌≡◌, ℕ, ◌<◌, [], Option, Some, None, Result, Ok, Err, nat_lt, if◌then◌else◌, is_none}
use Rattle.coap_wire.specs.declared.sizes.TheConstants.{LARGEST_MESSAGE}
use Rattle.coap_frame.specs.Framing.{FramerValue}
use Rattle.coap_frame.specs.declared.fault.RaiseFault.{RaiseFault}
use Rattle.coap_frame.specs.declared.fault.RaiseFault.TheVariants.{Lower, TooLarge, Memory}

-- The reason not to change the maximum from `max` to `new` bytes, if there is one. Allocation is not considered.
abbrev pub raise_refusal : ℕ → ℕ → Option RaiseFault
raise_refusal max new =
    if nat_lt new max then Some Lower else (if nat_lt LARGEST_MESSAGE new then Some TooLarge else None)

-- The framer with a new maximum. The kept bytes and the count of copied bytes stay, and a split frame is discarded.
abbrev pub with_size : FramerValue → ℕ → FramerValue
with_size v new = record v { max = new; spent = [] }

-- The framer after `raise` returned this result.
abbrev pub raised : {A : Type 0} → FramerValue → ℕ → Result A RaiseFault → FramerValue
raised v new (Ok done) = with_size v new
raised v new (Err fault) = v

-- The result of `raise`: success if there is no reason against it. Allocation fails only if the new maximum is larger.
abbrev pub IsRaiseAnswer : {A : Type 0} → ℕ → ℕ → Result A RaiseFault → Type 0
IsRaiseAnswer max new (Ok done) = raise_refusal max new ≡ None
IsRaiseAnswer max new (Err Lower) = raise_refusal max new ≡ Some Lower
IsRaiseAnswer max new (Err TooLarge) = raise_refusal max new ≡ Some TooLarge
IsRaiseAnswer max new (Err Memory) = (raise_refusal max new ≡ None) × (max < new)

-- The framer after a call of `raise` whose allocation does not fail.
abbrev pub raise_result : FramerValue → ℕ → FramerValue
raise_result v new = if is_none (raise_refusal v.max new) then with_size v new else v
