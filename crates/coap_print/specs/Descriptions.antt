-- Defined by this project: a message as text.
use Rattle.std.specs.Prelude.{ℕ, ◌+◌, ◌/◌, ◌%◌, ◌^◌, Bool, true, false, ◌==◌, nat_le, nat_lt, List, [], ◌++◌, length}
use Rattle.std.specs.Prelude.{take, Option, Some, None, codes, decimal, if◌then◌else◌}
use Rattle.std.specs.List.{flat_map}
use Rattle.coap_wire.specs.Codes.{class_of, detail_of}
use Rattle.coap_wire.specs.Message.{Message, CoapOption}
use Rattle.coap_wire.specs.Uint.{uint_of}
use Rattle.coap_print.specs.Texts.{is_text, hex_text, quoted}
use Rattle.coap_print.specs.Names.{OptionRow, code_name, content_format_name, known_option}
use Rattle.coap_print.specs.declared.tables.Format.{Format}
use Rattle.coap_print.specs.declared.tables.Format.TheVariants.{Text, Uint, ContentFormat, Block, Opaque}

-- Nothing if there are no bytes, otherwise a text.
abbrev pub unless_empty : List ℕ → List ℕ → List ℕ
unless_empty bytes text = if length bytes == 0 then [] else text

-- ---- code and token

-- A space and a name, or nothing if there is no name.
abbrev pub title_text : Option (List ℕ) → List ℕ
title_text None = []
title_text (Some name) = codes " " ++ name

-- A code as class and detail, as in 4.04.
abbrev pub code_number : ℕ → List ℕ
code_number code =
    decimal (class_of code) ++ codes "." ++ decimal (detail_of code / 10) ++ decimal (detail_of code % 10)

-- A code with its name, as in 4.04 Not Found.
unfoldable pub code_text : ℕ → List ℕ
code_text code = code_number code ++ title_text (code_name code)

-- A token in hexadecimal, or nothing if it is empty.
unfoldable pub token_text : List ℕ → List ℕ
token_text token = unless_empty token (codes " token " ++ hex_text token)

-- ---- values of options

-- The number that a value of format uint encodes. None if it has more than 4 bytes.
unfoldable pub uint_in : List ℕ → Option ℕ
uint_in value = if nat_le (length value) 4 then Some (uint_of value) else None

-- A number, as in =60. A value that is no number is written in hexadecimal, as in =0x0102030405.
abbrev pub uint_text : Option ℕ → List ℕ → List ℕ
uint_text (Some number) value = codes "=" ++ decimal number
uint_text None value = codes "=0x" ++ hex_text value

-- A name in parentheses, or nothing if there is no name.
abbrev pub remark : Option (List ℕ) → List ℕ
remark None = []
remark (Some name) = codes " (" ++ name ++ codes ")"

-- A Content-Format with its name, as in =50 (application/json).
abbrev pub content_format_text : Option ℕ → List ℕ → List ℕ
content_format_text (Some number) value = codes "=" ++ decimal number ++ remark (content_format_name number)
content_format_text None value = codes "=0x" ++ hex_text value

-- The size of a block with an exponent below 8 (RFC 7959 section 2.2). The exponent 7 is BERT (RFC 8323 section 6).
unfoldable pub block_size : ℕ → List ℕ
block_size exponent = if exponent == 7 then codes "BERT" else decimal (2 ^ (exponent + 4))

-- The number of a block, 1 if more blocks follow, and the size of the block, as in =3/1/1024.
abbrev pub block_text : Option ℕ → List ℕ → List ℕ
block_text (Some number) value =
    codes "=" ++ decimal (number / 16) ++ codes "/" ++ decimal (number / 8 % 2) ++ codes "/" ++ block_size (number % 8)
block_text None value = codes "=0x" ++ hex_text value

-- Bytes in hexadecimal, as in =2a. An empty value is not written.
unfoldable pub opaque_text : List ℕ → List ℕ
opaque_text value = unless_empty value (codes "=" ++ hex_text value)

-- A value of a format.
abbrev pub value_text : Format → List ℕ → List ℕ
value_text Text value = codes "=" ++ quoted value
value_text Uint value = uint_text (uint_in value) value
value_text ContentFormat value = content_format_text (uint_in value) value
value_text Block value = block_text (uint_in value) value
value_text Opaque value = opaque_text value

-- ---- options

-- An option with a name, as in Uri-Path="time". One without a name, as in option 65001=2a.
abbrev pub named_text : Option OptionRow → CoapOption → List ℕ
named_text (Some known) o = known.name ++ value_text known.format o.value
named_text None o = codes "option " ++ decimal o.number ++ opaque_text o.value

-- An option of a message with a code, after a space.
unfoldable pub option_text : ℕ → CoapOption → List ℕ
option_text code o = codes " " ++ named_text (known_option code o.number) o

-- ---- payload

-- The number of bytes of a payload that are written.
abbrev pub most_shown : ℕ
most_shown = 64

-- The length of a payload that is not written whole, as in 70312 bytes.
abbrev pub size_text : ℕ → List ℕ
size_text size = if nat_lt most_shown size then decimal size ++ codes " bytes " else []

-- Bytes as quoted text or in hexadecimal.
abbrev pub shown_text : Bool → List ℕ → List ℕ
shown_text true bytes = quoted bytes
shown_text false bytes = hex_text bytes

-- A payload, or nothing if it is empty: quoted text if all its bytes are printable, otherwise hexadecimal. Of a long
-- payload, the length and the first bytes.
unfoldable pub payload_text : List ℕ → List ℕ
payload_text payload =
    unless_empty payload
    (codes " payload " ++ size_text (length payload) ++ shown_text (is_text payload) (take most_shown payload))

-- ---- messages

-- A message: its code, its token, its options and its payload.
unfoldable pub message_text : Message → List ℕ
message_text m =
    code_text m.code ++ token_text m.token ++ flat_map (option_text m.code) m.options ++ payload_text m.payload

-- ---- representations

-- A Content-Format with its name, or nothing if there is none.
abbrev pub format_text : Option ℕ → List ℕ
format_text None = []
format_text (Some number) = codes " Content-Format=" ++ decimal number ++ remark (content_format_name number)

-- A representation: its Content-Format and its bytes.
abbrev pub representation_text : Option ℕ → List ℕ → List ℕ
representation_text format bytes = format_text format ++ payload_text bytes
