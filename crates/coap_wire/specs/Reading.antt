-- RFC 8323 section 3.2, RFC 7252 section 3.1, RFC 8974 section 2.1: decoding of a frame, to its message or its first
-- error.
use Rattle.std.specs.Prelude.{ℕ, zero, suc, ◌+◌, ◌-◌, ◌/◌, ◌%◌, List, [], ◌∷◌, length, take, drop, Option, Some, None}
use Rattle.std.specs.Prelude.{Result, Ok, Err, nat_lt, ◌==◌, if◌then◌else◌}
use Rattle.std.specs.Int.{w16, w32, from_be_bytes}
use Rattle.coap_wire.specs.Message.{CoapOption, Message, BodyValue}
use Rattle.coap_wire.specs.Forms.{greatest_token}
use Rattle.coap_wire.specs.declared.declaration.Declared.{Declared}
use Rattle.coap_wire.specs.declared.declaration.Declared.TheVariants as declared
use Rattle.coap_wire.specs.declared.fault.FormatFault.{FormatFault}
use Rattle.coap_wire.specs.declared.fault.FormatFault.TheVariants.{TokenLength, OptionDelta, OptionLength, OptionCut}
use Rattle.coap_wire.specs.declared.fault.FormatFault.TheVariants.{OptionNumber, EmptyPayload, NotOneFrame}

-- The result of `f` for the value on the left, or the error on the left.
infixl 10 ◌>>=◌
abbrev pub ◌>>=◌ : {A B : Type 0} → Result A FormatFault → (A → Result B FormatFault) → Result B FormatFault
(Ok x) >>= f = f x
(Err e) >>= f = Err e

-- The number in an extension of one byte, and the bytes after it. `None` if the byte is missing.
unfoldable pub one_byte_at : List ℕ → Option (ℕ × List ℕ)
one_byte_at [] = None
one_byte_at (b ∷ s) = Some (b, s)

-- The same for an extension of two bytes, in network order.
unfoldable pub two_bytes_at : List ℕ → Option (ℕ × List ℕ)
two_bytes_at s = if nat_lt (length s) 2 then None else Some (from_be_bytes w16 (take 2 s), drop 2 s)

-- The same for an extension of four bytes, in network order.
unfoldable pub four_bytes_at : List ℕ → Option (ℕ × List ℕ)
four_bytes_at s = if nat_lt (length s) 4 then None else Some (from_be_bytes w32 (take 4 s), drop 4 s)

-- The same bytes, and the number plus `k`.
abbrev pub plus : ℕ → Option (ℕ × List ℕ) → Option (ℕ × List ℕ)
plus k None = None
plus k (Some x) = Some (x.0 + k, x.1)

-- The length that the nibble `x` and the first bytes of `s` encode, and the bytes after the extension. `None` if the
-- extension is incomplete.
unfoldable pub length_at : ℕ → List ℕ → Option (ℕ × List ℕ)
length_at x s =
    if nat_lt x 13 then Some (x, s)
    else (if x == 13 then plus 13 (one_byte_at s)
    else (if x == 14 then plus 269 (two_bytes_at s)
    else plus 65805 (four_bytes_at s)))

-- The option delta or option length that the nibble `x`, below 15, and the first bytes of `s` encode, and the bytes
-- after the extension. `None` if the extension is incomplete.
unfoldable pub option_number_at : ℕ → List ℕ → Option (ℕ × List ℕ)
option_number_at x s =
    if nat_lt x 13 then Some (x, s)
    else (if x == 13 then plus 13 (one_byte_at s)
    else plus 269 (two_bytes_at s))

-- The token length that the nibble `x`, below 15, and the first bytes of `s` encode, and the bytes after the extension.
-- In a frame, `s` are the bytes after the code (RFC 8974 section 2.1). `None` if the extension is incomplete.
abbrev pub token_length_at : ℕ → List ℕ → Option (ℕ × List ℕ)
token_length_at x s = option_number_at x s

-- The declared size of a frame with `first` bytes before the code and a body of `n` bytes. The list `later` has the
-- bytes after the code. The last argument is the token length with the bytes after its extension, or `None`.
abbrev pub size_with : ℕ → ℕ → List ℕ → Option (ℕ × List ℕ) → Declared
size_with first n later None = declared.Unknown
size_with first n later (Some token) =
    if nat_lt greatest_token token.0 then declared.BadToken
    else declared.Size (first + 1 + (length later - length token.1) + token.0 + n)

-- The declared size of a frame whose token length has nibble `x`. The bytes `s` are those after the first byte. The
-- last argument is the length of the body with the bytes after its extension, or `None`.
abbrev pub size_from : ℕ → List ℕ → Option (ℕ × List ℕ) → Declared
size_from x s None = declared.Unknown
size_from x s (Some body) =
    size_with (1 + (length s - length body.1)) body.0 (drop 1 body.1) (token_length_at x (drop 1 body.1))

-- The size that the first bytes of a frame declare. `BadToken` means an invalid token length, `Unknown` means too few
-- bytes.
unfoldable pub declared_of : List ℕ → Declared
declared_of [] = declared.Unknown
declared_of (b ∷ s) = if b % 16 == 15 then declared.BadToken else size_from (b % 16) s (length_at (b / 16) s)

-- The parts of a frame: its code, its token and its body. The body is the options, the marker and the payload.
pub record Head : Type 0 where
  pub code : ℕ
  pub token : List ℕ
  pub body : List ℕ

-- The parts of a frame with this code and a body of exactly `n` bytes. The last argument is the token length with the
-- bytes after its extension, or `None`.
abbrev pub head_with : ℕ → ℕ → Option (ℕ × List ℕ) → Result Head FormatFault
head_with code n None = Err NotOneFrame
head_with code n (Some token) =
    if nat_lt greatest_token token.0 then Err TokenLength
    else (if length token.1 == token.0 + n
    then Ok (record { code = code; token = take token.0 token.1; body = drop token.0 token.1 })
    else Err NotOneFrame)

-- The parts of a frame whose token length has nibble `x` and whose body has `n` bytes. The last argument is the bytes
-- from the code on.
abbrev pub head_at_code : ℕ → ℕ → List ℕ → Result Head FormatFault
head_at_code x n [] = Err NotOneFrame
head_at_code x n (code ∷ s) = head_with code n (token_length_at x s)

-- The parts of a frame whose token length has nibble `x`. The last argument is the length of the body with the bytes
-- after its extension, or `None`.
abbrev pub head_from : ℕ → Option (ℕ × List ℕ) → Result Head FormatFault
head_from x None = Err NotOneFrame
head_from x (Some body) = head_at_code x body.0 body.1

-- The parts of a frame, or the first error of its head.
unfoldable pub head_at : List ℕ → Result Head FormatFault
head_at [] = Err NotOneFrame
head_at (b ∷ s) = if b % 16 == 15 then Err TokenLength else head_from (b % 16) (length_at (b / 16) s)

-- The same number, with the error `OptionCut` for an incomplete extension.
abbrev pub or_cut : Option (ℕ × List ℕ) → Result (ℕ × List ℕ) FormatFault
or_cut None = Err OptionCut
or_cut (Some x) = Ok x

-- The delta of nibble `x` and the length of nibble `y`, whose extensions are the first bytes of `s`, and the bytes
-- after both extensions.
abbrev pub both_at : ℕ → ℕ → List ℕ → Result (ℕ × ℕ × List ℕ) FormatFault
both_at x y s = do
  delta ← or_cut (option_number_at x s)
  len ← or_cut (option_number_at y delta.1)
  Ok (delta.0, len.0, len.1)

-- The delta and the length of an option with the first byte `b`, followed by `s`, and the bytes after both extensions.
unfoldable pub option_head_at : ℕ → List ℕ → Result (ℕ × ℕ × List ℕ) FormatFault
option_head_at b s =
    if b / 16 == 15 then Err OptionDelta else (if b % 16 == 15 then Err OptionLength else both_at (b / 16) (b % 16) s)

-- The option with this number and the first `n` bytes of `s` as its value, and the bytes after it.
abbrev pub value_at : ℕ → ℕ → List ℕ → Result (CoapOption × List ℕ) FormatFault
value_at number n s =
    if nat_lt 65535 number then Err OptionNumber
    else (if nat_lt (length s) n then Err OptionCut else Ok (record { number = number; value = take n s }, drop n s))

-- The option with the first byte `b`, followed by `s`, and the bytes after it. Its number is `base` plus the delta.
unfoldable pub option_at : ℕ → ℕ → List ℕ → Result (CoapOption × List ℕ) FormatFault
option_at base b s = do
  head ← option_head_at b s
  value_at (base + head.0) head.1 head.2

-- The options up to the end or the marker, and the payload after the marker. The delta of the first option counts from
-- `base`. The argument `turns` limits the recursion: each option has a byte, so the number of bytes is enough.
unfoldable pub body_within : ℕ → ℕ → List ℕ → Result (List CoapOption × List ℕ) FormatFault
body_within turns base [] = Ok ([], [])
body_within zero base (b ∷ s) = Err NotOneFrame
body_within (suc turns) base (b ∷ s) =
    if b == 255 then (if length s == 0 then Err EmptyPayload else Ok ([], s))
    else (option_at base b s
    >>= λ first. body_within turns first.0.number first.1 >>= λ others. Ok (first.0 ∷ others.0, others.1))

-- The options and the payload of the body `s`, or its first error. The delta of the first option counts from `base`.
unfoldable pub body_at : ℕ → List ℕ → Result (List CoapOption × List ℕ) FormatFault
body_at base s = body_within (length s) base s

-- The message that the frame `s` encodes, or its first error.
unfoldable pub message_of : List ℕ → Result Message FormatFault
message_of s = do
  head ← head_at s
  body ← body_at 0 head.body
  Ok (record { code = head.code; token = head.token; options = body.0; payload = body.1 })

-- The options in a result of `body_at`, or none if it is an error.
abbrev pub options_read : Result (List CoapOption × List ℕ) FormatFault → List CoapOption
options_read (Ok x) = x.0
options_read (Err e) = []

-- The options of the body `s`, or none if it is malformed. The delta of the first option counts from `base`.
abbrev pub options_in : ℕ → List ℕ → List CoapOption
options_in base s = options_read (body_at base s)

-- The payload in a result of `body_at`, or no byte if it is an error.
abbrev pub payload_read : Result (List CoapOption × List ℕ) FormatFault → List ℕ
payload_read (Ok x) = x.1
payload_read (Err e) = []

-- The options and the payload of the body `s`. Both are empty if it is malformed.
abbrev pub body_read : List ℕ → BodyValue
body_read s = record { options = options_in 0 s; payload = payload_read (body_at 0 s) }
