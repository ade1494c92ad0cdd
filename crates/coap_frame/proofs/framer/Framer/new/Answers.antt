use Rattle.std.proofs.Common.{arith}
use Rattle.coap_frame.proofs.FramingLemmas.{empty_framer}
use Rattle.coap_frame.proofs.framer.Framer.new.Goals as goal

pub invariant_of-result : goal.invariant_of-result
invariant_of-result c =
    let made = c.in_ok-with_capacity.ensures in (
      empty_framer c.args.max c.in_ok-with_capacity.field-0.items 0 c.requires.low
          c.requires.high (omega arith) made.items,
      omega (arith, made.capacity),
    )
