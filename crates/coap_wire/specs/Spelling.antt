-- RFC 8323 section 3.2, RFC 7252 section 3.1, RFC 8974 section 2.1: the encoding of a message, as relation `Spells` and
-- function `spelling`.
use Rattle.std.specs.Prelude.{◌≡◌, ℕ, ◌+◌, ◌-◌, ◌*◌, ◌≤◌, List, [], ◌∷◌, ◌++◌, length}
use Rattle.std.specs.List.{AllByRecursion}
use Rattle.coap_wire.specs.Message.{CoapOption, Message, AreOrdered}
use Rattle.coap_wire.specs.Forms.{IsLengthForm, length_form, IsOptionForm, option_form, greatest_token, IsTokenForm}
use Rattle.coap_wire.specs.Forms.{token_form, greatest_length}
use Rattle.coap_wire.specs.declared.sizes.TheConstants.{MAX_EXTENDED_LENGTH}

-- The bytes `s` are the head of an option, followed by `after`. A head is a byte of two nibbles, the extension of the
-- delta and the extension of the length. The nibbles and extensions encode the delta `delta` and the length `len` of
-- the value.
pub record IsOptionHead (s : List ℕ) (delta len : ℕ) (after : List ℕ) : Type 0 where
  pub delta_nibble : ℕ
  pub delta_extension : List ℕ
  pub length_nibble : ℕ
  pub length_extension : List ℕ
  pub delta_form : IsOptionForm delta_nibble delta_extension delta
  pub length_form : IsOptionForm length_nibble length_extension len
  pub bytes : s ≡ (16 * delta_nibble + length_nibble) ∷ (delta_extension ++ (length_extension ++ after))

-- The bytes `s` are the encoding of the option `o`, followed by `tail`. The number of `o` is `base` plus the delta, and
-- at most 65,535.
pub record IsOneOption (base : ℕ) (o : CoapOption) (s tail : List ℕ) : Type 0 where
  pub delta : ℕ
  pub number : o.number ≡ base + delta
  pub number_fits : o.number ≤ 65535
  pub head : IsOptionHead s delta (length o.value) (o.value ++ tail)

-- The bytes `s` are the encodings of the options, one after the other, followed by `tail`. The delta of an option
-- counts from the number of the option before it, and the delta of the first one counts from `base`.
abbrev pub IsOptionBytes : ℕ → List CoapOption → List ℕ → List ℕ → Type 0
IsOptionBytes base [] s tail = s ≡ tail
IsOptionBytes base (o ∷ os) s tail = (mid : List ℕ) × IsOneOption base o s mid × IsOptionBytes o.number os mid tail

-- The marker 255 and the payload, or no byte if the payload is empty.
abbrev pub payload_bytes : List ℕ → List ℕ
payload_bytes [] = []
payload_bytes (b ∷ bs) = 255 ∷ b ∷ bs

-- The bytes `s` are the head of a message with this code and token, followed by `body`. The head is the first byte of
-- two nibbles, the extension of the length, the code, the extension of the token length, and the token. The length is
-- that of `body`.
pub record IsHeadAndBody (s : List ℕ) (code : ℕ) (token body : List ℕ) : Type 0 where
  pub length_nibble : ℕ
  pub extension : List ℕ
  pub token_nibble : ℕ
  pub token_extension : List ℕ
  pub length_form : IsLengthForm length_nibble extension (length body)
  pub token_form : IsTokenForm token_nibble token_extension (length token)
  pub bytes : s ≡ (16 * length_nibble + token_nibble) ∷ (extension ++ code ∷ (token_extension ++ (token ++ body)))

-- The bytes `s` are the encoding of the message `m`: its head, followed by its body. The body is the encoded options,
-- the marker and the payload. The code and the contents of token, values and payload are bytes if `s` has bytes only.
pub record Spells (s : List ℕ) (m : Message) : Type 0 where
  pub body : List ℕ
  pub head : IsHeadAndBody s m.code m.token body
  pub options : IsOptionBytes 0 m.options body (payload_bytes m.payload)

-- ---- the only encoding, as a function

-- The head of an option whose value has `n` bytes: the first byte and both extensions. The delta counts from `base`.
abbrev pub option_head_spelling : (base number n : ℕ) → List ℕ
option_head_spelling base number n =
    (16 * (option_form (number - base)).0 + (option_form n).0)
    ∷ ((option_form (number - base)).1 ++ (option_form n).1)

-- The encoding of the option `o`, whose delta counts from `base`.
abbrev pub option_spelling : ℕ → CoapOption → List ℕ
option_spelling base o =
    (16 * (option_form (o.number - base)).0 + (option_form (length o.value)).0)
    ∷ ((option_form (o.number - base)).1 ++ ((option_form (length o.value)).1 ++ o.value))

-- The encodings of the options, one after the other. The delta of the first one counts from `base`.
abbrev pub options_spelling : ℕ → List CoapOption → List ℕ
options_spelling base [] = []
options_spelling base (o ∷ os) = option_spelling base o ++ options_spelling o.number os

-- The encoding of the options, the marker and the payload of a message.
abbrev pub body_spelling : Message → List ℕ
body_spelling m = options_spelling 0 m.options ++ payload_bytes m.payload

-- The head of a message with this code, this token and a body of `n` bytes.
abbrev pub head_spelling : ℕ → List ℕ → ℕ → List ℕ
head_spelling code token n =
    (16 * (length_form n).0 + (token_form (length token)).0)
    ∷ ((length_form n).1 ++ code ∷ ((token_form (length token)).1 ++ token))

-- The encoding of a message. If the message has one (`HasSpelling`), it is this one alone.
unfoldable pub spelling : Message → List ℕ
spelling m = head_spelling m.code m.token (length (body_spelling m)) ++ body_spelling m

-- ---- the encoding without the payload

-- The marker, or no byte if the payload is empty.
abbrev pub payload_marker : List ℕ → List ℕ
payload_marker [] = []
payload_marker (b ∷ bs) = 255 ∷ []

-- The encoding of a message without the payload at its end.
unfoldable pub front_spelling : Message → List ℕ
front_spelling m =
    head_spelling m.code m.token (length (body_spelling m))
    ++ (options_spelling 0 m.options ++ payload_marker m.payload)

-- ---- messages that have an encoding

-- The number of the option is at most 65,535, and its value has at most 65,804 bytes.
abbrev pub HasOptionForm : CoapOption → Type 0
HasOptionForm o = (o.number ≤ 65535) × (length o.value ≤ MAX_EXTENDED_LENGTH)

-- The message has an encoding: its token, its options and the length of its body are in range.
pub record HasSpelling (m : Message) : Type 0 where
  pub token : length m.token ≤ greatest_token
  pub ordered : AreOrdered 0 m.options
  pub each : AllByRecursion HasOptionForm m.options
  pub body : length (body_spelling m) ≤ greatest_length
