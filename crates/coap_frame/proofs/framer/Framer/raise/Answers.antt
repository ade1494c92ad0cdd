use Rattle.std.proofs.Common.{ap, ◌∙◌, arith}
use Rattle.coap_frame.specs.Prelude.{kept_in}
use Rattle.coap_frame.proofs.RaiseLemmas.{raised_holds}
use Rattle.coap_frame.proofs.framer.Framer.raise.Goals as goal

pub invariant_of-self-2 : goal.invariant_of-self-2
invariant_of-self-2 c =
    let was = c.self.inside in
    let left = c.keep_beginning.ensures.items ∙ ap (kept_in was.content) c.grow.ensures.items in (
      raised_holds was.max c.args.new was.copied was.content c.keep_beginning.new.content
          was.buffer.items _ c.self.invariant.0
          (omega (arith, c.if-new-self.false)) (omega (arith, c.if-new-gt-LARGEST_MESSAGE.false))
          c.keep_beginning.ensures.content left,
      omega (arith, c.in-Ok.ensures.ok, c.keep_beginning.ensures.capacity),
    )
