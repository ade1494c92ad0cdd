use Rattle.std.proofs.Common.{length, arith, ap}
use Rattle.std.proofs.lemmas.List.{length-append}
use Rattle.coap_wire.specs.Prelude.{option_head_spelling}
use Rattle.coap_wire.proofs.HeadSizes.{option_head_then_value}
use Rattle.coap_wire.proofs.encode.write_option.Goals as goal

pub write_option_head-requires-clause-room : goal.write_option_head-requires-clause-room
write_option_head-requires-clause-room g c =
    omega (
      arith,
      ap length (option_head_then_value c.args.base c.args.number c.args.value.now),
      length-append (option_head_spelling c.args.base c.args.number (length c.args.value.now)) c.args.value.now,
    )
