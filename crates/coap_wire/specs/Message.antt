-- RFC 7252 section 3, RFC 8323 section 3.2: messages and options as values, independent of their encoding.
use Rattle.std.specs.Prelude.{ℕ, ◌<◌, ◌≤◌, List, [], ◌∷◌, slice_index}

-- An option: its number and the bytes of its value.
pub record CoapOption : Type 0 where
  pub number : ℕ
  pub value : List ℕ

-- A message: its code as a byte, its token, its options and its payload. An empty payload means that there is none.
-- The record allows any options; those of a message that has an encoding are `AreOrdered`.
pub record Message : Type 0 where
  pub code : ℕ
  pub token : List ℕ
  pub options : List CoapOption
  pub payload : List ℕ

-- The options and the payload of a message.
pub record BodyValue : Type 0 where
  pub options : List CoapOption
  pub payload : List ℕ

-- The options and the payload of the message `m`.
abbrev pub body_of : Message → BodyValue
body_of m = record { options = m.options; payload = m.payload }

-- The number `b` is a byte.
abbrev pub IsByte : ℕ → Type 0
IsByte b = b < 256

-- The options are in order: no number is below that of the option before it, and the first is not below `base`.
abbrev pub AreOrdered : ℕ → List CoapOption → Type 0
AreOrdered base [] = Unit {0}
AreOrdered base (o ∷ os) = (base ≤ o.number) × AreOrdered o.number os

-- The number of the last option, or `base` if there is no option. The delta of an option that follows is the difference
-- between its number and this one.
abbrev pub last_number : ℕ → List CoapOption → ℕ
last_number base [] = base
last_number base (o ∷ os) = last_number o.number os

-- Each number of the list is a byte.
abbrev pub AreBytes : List ℕ → Type 0
AreBytes bytes = (i : ℕ) → slice_index bytes i < 256
