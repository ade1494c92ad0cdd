-- The messages of the replies.
use Rattle.std.specs.Prelude.{ℕ, List, [], ◌∷◌, codes, decimal, Option, Bool, false, length, nat_lt, nat_le}
use Rattle.std.specs.Prelude.{if◌then◌else◌}
use Rattle.coap_wire.specs.Spelling.{spelling}
use Rattle.std.specs.Option.{unwrap_or}
use Rattle.coap_wire.specs.Message.{Message}
use Rattle.coap_wire.specs.Codes.{code_of}
use Rattle.directory_core.specs.Refusals.{code_of_refusal, text_of_refusal}
use Rattle.directory_core.specs.declared.reply.Reply.{Reply}
use Rattle.directory_core.specs.declared.reply.Reply.TheVariants.{Created, Changed, Deleted, Content, Refused}
use Rattle.directory_core.specs.declared.reply.Reply.TheVariants.{OutOfMemory}

-- 2.01 with the location of this decimal number.
abbrev pub location_message : List ℕ → List ℕ → Message
location_message token digits = record {
  code = code_of 2 1;
  token = token;
  options = record { number = 8; value = codes "rd" } ∷ record { number = 8; value = digits } ∷ [];
  payload = [];
}

-- 2.05 with the results of a lookup, in Content-Format 40.
abbrev pub content_message : List ℕ → List ℕ → Message
content_message token text =
    record { code = code_of 2 5; token = token; options = record { number = 12; value = 40 ∷ [] } ∷ []; payload = text }

-- A response without options.
abbrev pub short_message : List ℕ → ℕ → List ℕ → Message
short_message token code text = record { code = code; token = token; options = []; payload = text }

-- The response of a reply, where `content` is the result of the last lookup.
abbrev pub message_of : List ℕ → Option (List ℕ) → Reply → Message
message_of token content (Created number) = location_message token (decimal number)
message_of token content Changed = short_message token (code_of 2 4) []
message_of token content Deleted = short_message token (code_of 2 2) []
message_of token content Content = content_message token (unwrap_or content [])
message_of token content (Refused e) = short_message token (code_of_refusal e) (text_of_refusal e)
message_of token content OutOfMemory = short_message token (code_of 5 0) []

-- The message has an encoding, of at most `room` bytes.
abbrev pub fits : ℕ → Message → Bool
fits room m = if nat_lt 1048576 (length m.payload) then false else nat_le (length (spelling m)) room
