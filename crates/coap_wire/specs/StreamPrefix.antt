-- RFC 8323 sections 3.2, 5.3.1: the classification of the first bytes of a stream as an unfinished frame, a whole frame
-- or an error. A frame may have at most `M` bytes.
use Rattle.std.specs.Prelude.{◌≡◌, ℕ, ◌+◌, ◌/◌, ◌%◌, ◌<◌, List, [], ◌∷◌, ◌++◌, length, take, drop, nat_lt, ◌==◌}
use Rattle.std.specs.Prelude.{if◌then◌else◌}
use Rattle.coap_wire.specs.Forms.{extension_of, option_extension}
use Rattle.coap_wire.specs.Size.{IsTokenLengthFault, IsSizeHead, IsFrame}
use Rattle.coap_wire.specs.Reading.{declared_of}
use Rattle.coap_wire.specs.declared.declaration.Declared.{Declared}
use Rattle.coap_wire.specs.declared.declaration.Declared.TheVariants.{Unknown, Size, BadToken}
use Rattle.coap_wire.specs.declared.fault.FrameFault.{FrameFault}
use Rattle.coap_wire.specs.declared.fault.FrameFault.TheVariants.{TokenLength, TooLarge}

-- ---- errors and unfinished frames as relations

-- The bytes `r` are the shortest prefix of a stream that states a size above `M`.
abbrev pub IsTooLarge : ℕ → List ℕ → Type 0
IsTooLarge M r = (n : ℕ) × IsSizeHead r n × (M < n)

-- The bytes `r` are the shortest prefix of a stream that shows this error.
abbrev pub IsFrameFault : ℕ → FrameFault → List ℕ → Type 0
IsFrameFault M TokenLength r = IsTokenLengthFault r
IsFrameFault M TooLarge r = IsTooLarge M r

-- No prefix of `r` is a frame or shows an error.
abbrev pub IsUnfinished : ℕ → List ℕ → Type 0
IsUnfinished M r = (p q : List ℕ) → r ≡ p ++ q → (IsFrame p → ⊥) × ((fault : FrameFault) → IsFrameFault M fault p → ⊥)

-- ---- the classification as a function

-- The first bytes of a stream: an unfinished frame, a whole frame followed by the other bytes, or an error.
pub data StreamPrefix : Type 0 where
  Unfinished : StreamPrefix
  Whole : (frame rest : List ℕ) → StreamPrefix
  Faulty : FrameFault → StreamPrefix

-- The classification of the stream `s`, whose first bytes declare this.
abbrev pub begins_with : ℕ → List ℕ → Declared → StreamPrefix
begins_with M s Unknown = Unfinished
begins_with M s BadToken = Faulty TokenLength
begins_with M s (Size n) =
    if nat_lt M n then Faulty TooLarge
    else (if nat_lt (length s) n then Unfinished else Whole (take n s) (drop n s))

-- The classification of the stream `s`.
unfoldable pub prefix_kind : ℕ → List ℕ → StreamPrefix
prefix_kind M s = begins_with M s (declared_of s)

-- The number of bytes between the extension of the length and the last byte that states the size, if the token length
-- has nibble `x`. They are the code and the extension of the token length, or none if it has no extension.
abbrev pub token_bytes : ℕ → ℕ
token_bytes x = if nat_lt x 13 then 0 else 1 + option_extension x

-- The number of the first bytes of a stream that state the size of its first frame. For a token length of nibble 15
-- this is 1, since the first byte shows the error; for an empty stream it is 0.
abbrev pub size_bytes : List ℕ → ℕ
size_bytes [] = 0
size_bytes (b ∷ s) = if b % 16 == 15 then 1 else 1 + extension_of (b / 16) + token_bytes (b % 16)

-- The shortest prefix of a stream that shows the error at its start, if there is one.
abbrev pub fault_bytes : List ℕ → List ℕ
fault_bytes s = take (size_bytes s) s
