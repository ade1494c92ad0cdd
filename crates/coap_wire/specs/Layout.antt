-- RFC 8323 section 3.2, RFC 8974 section 2.1: the positions of the parts of a frame, as its first bytes state them.
use Rattle.std.specs.Prelude.{◌≡◌, ℕ, ◌+◌, ◌-◌, ◌/◌, ◌%◌, List, [], ◌∷◌, length, drop, Option, Some, None, nat_lt, ◌==◌}
use Rattle.std.specs.Prelude.{if◌then◌else◌}
use Rattle.coap_wire.specs.Forms.{greatest_token}
use Rattle.coap_wire.specs.Reading.{length_at, token_length_at}
use Rattle.coap_wire.specs.declared.declaration.Declared.{Declared}
use Rattle.coap_wire.specs.declared.declaration.Declared.TheVariants as declared
use Rattle.coap_wire.specs.declared.layout.FrameLayout.{FrameLayout}
use Rattle.coap_wire.specs.declared.layout.Outline.{Outline}
use Rattle.coap_wire.specs.declared.layout.Outline.TheVariants.{Unknown, BadToken, Known}

-- The outline of a frame whose code is at position `code_at` and whose body has `n` bytes. The list `later` has the
-- bytes after the code. The last argument is the token length with the bytes after its extension, or `None`.
abbrev pub outline_with : ℕ → ℕ → List ℕ → Option (ℕ × List ℕ) → Outline
outline_with code_at n later None = Unknown
outline_with code_at n later (Some token) =
    if nat_lt greatest_token token.0 then BadToken
    else Known (code_at + 1 + (length later - length token.1) + token.0 + n)
    (record { code_at = code_at; token_at = code_at + 1 + (length later - length token.1); token_length = token.0 })

-- The outline of a frame whose token length has nibble `x`. The bytes `s` are those after the first byte. The last
-- argument is the length of the body with the bytes after its extension, or `None`.
abbrev pub outline_from : ℕ → List ℕ → Option (ℕ × List ℕ) → Outline
outline_from x s None = Unknown
outline_from x s (Some body) =
    outline_with (1 + (length s - length body.1)) body.0 (drop 1 body.1) (token_length_at x (drop 1 body.1))

-- The size and the layout of a frame that its first bytes state. `BadToken` means an invalid token length, `Unknown`
-- means too few bytes.
unfoldable pub outline_of : List ℕ → Outline
outline_of [] = Unknown
outline_of (b ∷ s) = if b % 16 == 15 then BadToken else outline_from (b % 16) s (length_at (b / 16) s)

-- The size in an outline.
abbrev pub declared_in : Outline → Declared
declared_in Unknown = declared.Unknown
declared_in BadToken = declared.BadToken
declared_in (Known size layout) = declared.Size size

-- The bytes `f` are exactly one frame with this layout.
abbrev pub IsLaidOut : List ℕ → FrameLayout → Type 0
IsLaidOut f layout = outline_of f ≡ Known (length f) layout
