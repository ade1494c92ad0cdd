-- RFC 8323 section 3.2, RFC 8974 section 2.1: the size that the first bytes of a frame declare, and which bytes are
-- exactly one frame.
use Rattle.std.specs.Prelude.{◌≡◌, ℕ, ◌+◌, ◌*◌, ◌%◌, ◌<◌, ◌≤◌, List, [], ◌∷◌, ◌++◌, length, ◌⊎◌}
use Rattle.coap_wire.specs.Forms.{IsLengthForm, IsOptionForm, greatest_token}
use Rattle.coap_wire.specs.declared.declaration.Declared.{Declared}
use Rattle.coap_wire.specs.declared.declaration.Declared.TheVariants.{Unknown, Size, BadToken}

-- The code and the extension of the token length. If the extension is empty, no byte: the size is then known before the
-- code.
abbrev pub code_and_extension : ℕ → List ℕ → List ℕ
code_and_extension code [] = []
code_and_extension code (e ∷ es) = code ∷ e ∷ es

-- The bytes are the shortest prefix of a frame that states its token length `t` and the length `n` of its body. The
-- body is the options, the marker and the payload. The prefix is the first byte and the extension of the length. If the
-- token length has an extension, the code and that extension follow. The token length may be above 64.
pub record StatesLengths (bytes : List ℕ) (t n : ℕ) : Type 0 where
  pub length_nibble : ℕ
  pub extension : List ℕ
  pub token_nibble : ℕ
  pub code : ℕ
  pub token_extension : List ℕ
  pub length_form : IsLengthForm length_nibble extension n
  pub token_form : IsOptionForm token_nibble token_extension t
  pub head : bytes ≡ (16 * length_nibble + token_nibble) ∷ (extension ++ code_and_extension code token_extension)

-- The bytes are the shortest prefix of a frame that states its size `n`, and the token length is at most 64. The size
-- counts the first byte, both extensions, the code, the token and the body.
pub record IsSizeHead (bytes : List ℕ) (n : ℕ) : Type 0 where
  pub token_length : ℕ
  pub body_length : ℕ
  pub lengths : StatesLengths bytes token_length body_length
  pub short : token_length ≤ greatest_token
  pub size : n ≡ 1 + length lengths.extension + 1 + length lengths.token_extension + token_length + body_length

-- A prefix of `s` states the size `n`. So every frame that begins with `s` has `n` bytes.
abbrev pub IsDeclaredSize : List ℕ → ℕ → Type 0
IsDeclaredSize s n = (head more : List ℕ) × (s ≡ head ++ more) × IsSizeHead head n

-- The bytes `f` are exactly one frame: a prefix of `f` states the length of `f` as the size.
abbrev pub IsFrame : List ℕ → Type 0
IsFrame f = IsDeclaredSize f (length f)

-- The bytes `head` are the shortest prefix of a frame that states an invalid token length. For nibble 15 this is the
-- first byte. For a length above 64 it ends with the last byte of the extension.
abbrev pub IsTokenLengthFault : List ℕ → Type 0
IsTokenLengthFault head =
    ((b : ℕ) × (head ≡ b ∷ []) × (b % 16 ≡ 15)) ⊎ ((t n : ℕ) × StatesLengths head t n × (greatest_token < t))

-- A prefix of `s` states an invalid token length: nibble 15, or more than 64.
abbrev pub HasBadToken : List ℕ → Type 0
HasBadToken s = (head more : List ℕ) × (s ≡ head ++ more) × IsTokenLengthFault head

-- The first bytes `s` of a frame declare this: an invalid token length, a size, or neither yet.
abbrev pub Declares : List ℕ → Declared → Type 0
Declares s BadToken = HasBadToken s
Declares s (Size n) = IsDeclaredSize s n
Declares s Unknown = (HasBadToken s → ⊥) × ((n : ℕ) → IsDeclaredSize s n → ⊥)
