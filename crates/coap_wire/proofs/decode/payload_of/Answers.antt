use Rattle.std.proofs.Common.{length, ap, arith}
use Rattle.coap_wire.specs.Prelude.{coap_option}
use Rattle.coap_wire.proofs.BodySteps.{option_shorter}
use Rattle.coap_wire.proofs.BodyLemmas.{goes_on}
use Rattle.coap_wire.proofs.decode.payload_of.Goals as goal

pub loop-first-smaller : goal.loop-first-smaller
loop-first-smaller c =
    omega (
      arith,
      option_shorter c.loop-first.base c.in-Some.first.now c.in-Some.after.now
          (coap_option c.in_ok-option.option, c.in_ok-option.later.now) c.in_ok-option.ensures,
      ap length c.in-Some.ensures.cases.0,
    )

pub loop-first-preserved : goal.loop-first-preserved
loop-first-preserved c = (
  _,
  goes_on c.loop-first.invariant.0 c.loop-first.base c.in-Some.first.now c.loop-first.rest.now c.in-Some.after.now
      (coap_option c.in_ok-option.option, c.in_ok-option.later.now) _ c.in-Some.ensures.cases.0 c.if-first.false
      c.in_ok-option.ensures c.loop-first.invariant.1,
)
