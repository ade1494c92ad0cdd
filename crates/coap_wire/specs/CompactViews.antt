-- Defined by this project: the message that contracts see for a `CompactBuilder`, and the invariant of its fields.
use Rattle.std.specs.Prelude.{◌≡◌, ℕ, ◌≤◌, List, length}
use Rattle.std.specs.List.{AllByRecursion}
use Rattle.coap_wire.specs.Message.{Message, AreOrdered, last_number}
use Rattle.coap_wire.specs.Spelling.{options_spelling, HasOptionForm}
use Rattle.coap_wire.specs.Reading.{options_in}
use Rattle.coap_wire.specs.Forms.{greatest_token}
use Rattle.coap_wire.specs.declared.compact.CompactBuilder.TheInside.{Inside}
use Rattle.coap_wire.specs.declared.sizes.TheConstants.{MAX_EXTENDED_LENGTH, LARGEST_MESSAGE}

-- The message in the builder. Its options are decoded from the encoded ones.
abbrev pub compact_message : {N : ℕ} → Inside N → Message
compact_message b =
    record { code = b.code; token = b.token; options = options_in 0 b.options.items; payload = b.payload.now }

-- The length of the encoded options of a message.
abbrev pub encoded_size : Message → ℕ
encoded_size m = length (options_spelling 0 m.options)

-- The bytes are the encoding of options in order, and `last` is the number of the last option, or 0 without options.
pub record IsEncoding (bytes : List ℕ) (last : ℕ) : Type 0 where
  pub encoded : bytes ≡ options_spelling 0 (options_in 0 bytes)
  pub ordered : AreOrdered 0 (options_in 0 bytes)
  pub each : AllByRecursion HasOptionForm (options_in 0 bytes)
  pub last_is : last ≡ last_number 0 (options_in 0 bytes)

-- The builder has encoded options with the number of the last one, and a token and a payload in range. Its capacity `N`
-- is at most 65,804.
pub record IsCompact {N : ℕ} (b : Inside N) : Type 0 where
  pub options : IsEncoding b.options.items b.last
  pub token : length b.token ≤ greatest_token
  pub payload : length b.payload.now ≤ LARGEST_MESSAGE
  pub few : N ≤ MAX_EXTENDED_LENGTH
