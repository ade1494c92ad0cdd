-- Defined by this project: the message that contracts see for a `MessageBuilder`, and the invariant of its fields.
use Rattle.std.specs.Prelude.{◌≡◌, ℕ, ◌≤◌, ◌*◌, length}
use Rattle.coap_wire.specs.Message.{Message}
use Rattle.coap_wire.specs.Spelling.{options_spelling}
use Rattle.coap_wire.specs.Views.{coap_options, CanBeBuilt}
use Rattle.coap_wire.specs.declared.builder.MessageBuilder.TheInside.{Inside}

-- The message in the builder.
abbrev pub built_message : {N : ℕ} → Inside N → Message
built_message b =
    record { code = b.code; token = b.token; options = coap_options b.options.items; payload = b.payload.now }

-- The message in the builder can be built, and `options_size` is the length of its encoded options. An encoded option
-- has at most 65,809 bytes.
pub record CanBuild {N : ℕ} (b : Inside N) : Type 0 where
  pub can : CanBeBuilt (built_message b)
  pub size : b.options_size ≡ length (options_spelling 0 (coap_options b.options.items))
  pub bound : b.options_size ≤ 65809 * length b.options.items
