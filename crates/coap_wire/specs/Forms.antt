-- RFC 8323 section 3.2, RFC 7252 section 3.1, RFC 8974 section 2.1: the forms of numbers. A form is a nibble (4 bits)
-- and the bytes that extend it, in network order.
use Rattle.std.specs.Prelude.{◌≡◌, ℕ, ◌+◌, ◌-◌, ◌<◌, ◌≤◌, List, [], ◌∷◌, nat_lt, ◌==◌, if◌then◌else◌}
use Rattle.std.specs.Int.{w16, w32, to_be_bytes, from_be_bytes}
use Rattle.std.specs.List.{AllByRecursion}
use Rattle.coap_wire.specs.Message.{IsByte}

-- Nibble `x` with the extension bytes encodes the length `n` of the options, the marker and the payload (RFC 8323
-- section 3.2).
abbrev pub IsLengthForm : ℕ → List ℕ → ℕ → Type 0
IsLengthForm x [] n = (x < 13) × (n ≡ x)
IsLengthForm x (a ∷ []) n = (x ≡ 13) × IsByte a × (n ≡ a + 13)
IsLengthForm x (a ∷ b ∷ []) n =
    (x ≡ 14) × AllByRecursion IsByte (a ∷ b ∷ []) × (n ≡ from_be_bytes w16 (a ∷ b ∷ []) + 269)
IsLengthForm x (a ∷ b ∷ c ∷ []) n = ⊥
IsLengthForm x (a ∷ b ∷ c ∷ d ∷ []) n =
    (x ≡ 15) × AllByRecursion IsByte (a ∷ b ∷ c ∷ d ∷ []) × (n ≡ from_be_bytes w32 (a ∷ b ∷ c ∷ d ∷ []) + 65805)
IsLengthForm x (a ∷ b ∷ c ∷ d ∷ e ∷ es) n = ⊥

-- The number of bytes that extend the nibble `x` of a length.
abbrev pub extension_of : ℕ → ℕ
extension_of x = if nat_lt x 13 then 0 else (if x == 13 then 1 else (if x == 14 then 2 else 4))

-- The largest length that can be encoded: 65,805 + 2^32 - 1.
abbrev pub greatest_length : ℕ
greatest_length = 4295033100

-- The only form of a length `n` up to `greatest_length`: its nibble and its extension.
abbrev pub length_form : ℕ → ℕ × List ℕ
length_form n =
    if nat_lt n 13 then (n, [])
    else (if nat_lt n 269 then (13, (n - 13) ∷ [])
    else (if nat_lt n 65805 then (14, to_be_bytes w16 (n - 269))
    else (15, to_be_bytes w32 (n - 65805))))

-- Nibble `x` with the extension bytes encodes the option delta or option length `n` (RFC 7252 section 3.1). Nibble 15
-- encodes no number.
abbrev pub IsOptionForm : ℕ → List ℕ → ℕ → Type 0
IsOptionForm x [] n = (x < 13) × (n ≡ x)
IsOptionForm x (a ∷ []) n = (x ≡ 13) × IsByte a × (n ≡ a + 13)
IsOptionForm x (a ∷ b ∷ []) n =
    (x ≡ 14) × AllByRecursion IsByte (a ∷ b ∷ []) × (n ≡ from_be_bytes w16 (a ∷ b ∷ []) + 269)
IsOptionForm x (a ∷ b ∷ c ∷ es) n = ⊥

-- The number of bytes that extend the nibble `x`, below 15, of an option delta or an option length.
abbrev pub option_extension : ℕ → ℕ
option_extension x = if nat_lt x 13 then 0 else (if x == 13 then 1 else 2)

-- The only form of an option delta or an option length `n` up to 65,804: its nibble and its extension.
abbrev pub option_form : ℕ → ℕ × List ℕ
option_form n =
    if nat_lt n 13 then (n, [])
    else (if nat_lt n 269 then (13, (n - 13) ∷ [])
    else (14, to_be_bytes w16 (n - 269)))

-- The largest token length that this project accepts. RFC 8974 section 2.1 can encode up to 65,804.
abbrev pub greatest_token : ℕ
greatest_token = 64

-- Nibble `x` with extension `e` encodes the token length `n`, which has the form of an option length (RFC 8974 section
-- 2.1). The length is at most `greatest_token`, and nibble 15 encodes none.
abbrev pub IsTokenForm : ℕ → List ℕ → ℕ → Type 0
IsTokenForm x e n = IsOptionForm x e n × (n ≤ greatest_token)

-- The only form of a token length `n`: its nibble and its extension.
abbrev pub token_form : ℕ → ℕ × List ℕ
token_form n = option_form n
