-- Defined by this project: a message as text, if only its first bytes are known.
use Rattle.std.specs.Prelude.{ℕ, ◌+◌, ◌-◌, ◌/◌, ◌%◌, List, [], ◌∷◌, ◌++◌, length, take, drop, slice_get, Option, None}
use Rattle.std.specs.Prelude.{Result, Ok, Err, nat_le, codes, decimal, if◌then◌else◌}
use Rattle.coap_wire.specs.Forms.{extension_of}
use Rattle.coap_wire.specs.Message.{Message}
use Rattle.coap_wire.specs.Reading.{declared_of, message_of}
use Rattle.coap_wire.specs.declared.fault.FormatFault.{FormatFault}
use Rattle.coap_wire.specs.declared.declaration.Declared.{Declared}
use Rattle.coap_wire.specs.declared.declaration.Declared.TheVariants.{Unknown, Size, BadToken}
use Rattle.coap_print.specs.Descriptions.{message_text}

-- The text of a message, or another text if there is none.
abbrev pub text_or : Result Message FormatFault → List ℕ → List ℕ
text_or (Ok m) other = message_text m
text_or (Err e) other = other

-- The text of a whole frame.
abbrev pub frame_text : List ℕ → List ℕ
frame_text frame = text_or (message_of frame) (codes "malformed message")

-- ---- the first bytes of a longer frame: the nibble of its token length, and the bytes from its code on

-- The size that a frame declares, or 0.
abbrev pub size_in : Declared → ℕ
size_in Unknown = 0
size_in (Size size) = size
size_in BadToken = 0

-- The first bytes of a frame with a body of 269 + n bytes (RFC 8323 section 3.2).
abbrev pub long_header : ℕ → ℕ → List ℕ
long_header nibble n = (224 + nibble) ∷ (n / 256) ∷ (n % 256) ∷ []

-- The number of bytes of `rest` that a body of 269 bytes leaves over.
abbrev pub spare : ℕ → List ℕ → ℕ
spare nibble rest = length (long_header nibble 0 ++ rest) - size_in (declared_of (long_header nibble 0 ++ rest))

-- The frame that ends with these bytes: its body is cut.
abbrev pub cut_frame : ℕ → List ℕ → List ℕ
cut_frame nibble rest = long_header nibble (spare nibble rest) ++ rest

-- The frame with the same code and token, and an empty body.
abbrev pub bare_frame : ℕ → List ℕ → List ℕ
bare_frame nibble rest = take (size_in (declared_of (nibble ∷ rest))) (nibble ∷ rest)

-- The text of a frame with a body that is cut. If its options are cut too, the text of the code and the token.
abbrev pub cut_frame_text : ℕ → List ℕ → List ℕ
cut_frame_text nibble rest = text_or (message_of (cut_frame nibble rest)) (frame_text (bare_frame nibble rest))

-- The text of the first bytes of a longer frame.
abbrev pub long_text : List ℕ → List ℕ
long_text [] = codes "malformed message"
long_text (first ∷ after) = cut_frame_text (first % 16) (drop (extension_of (first / 16)) after)

-- The text of a frame of this size with these first bytes. If they are not all of it, their number and the size are
-- written first.
unfoldable pub head_text : List ℕ → ℕ → List ℕ
head_text head size =
    if nat_le size (length head) then frame_text head
    else codes "first " ++ decimal (length head) ++ codes " of " ++ decimal size ++ codes " bytes: " ++ long_text head

-- The code of the frame with these first bytes, if it is one of them.
unfoldable pub head_code : List ℕ → Option ℕ
head_code [] = None
head_code (first ∷ after) = slice_get (drop (extension_of (first / 16)) after) 0
