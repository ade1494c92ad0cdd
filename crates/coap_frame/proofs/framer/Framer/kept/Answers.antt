use Rattle.std.proofs.Common.{ap, arith}
use Rattle.coap_frame.specs.Prelude.{framer_value}
use Rattle.coap_frame.proofs.FramingLemmas.{kept_below}
use Rattle.coap_frame.proofs.framer.Framer.kept.Goals as goal

pub returns-in-Prefix-clause-below : goal.returns-in-Prefix-clause-below
returns-in-Prefix-clause-below c =
    let below = kept_below (framer_value c.self.inside) c.self.invariant.0 in
    omega (arith, rw c.in-Prefix.is at below, ap (λ v. v.max) c.self.view_is, c.len.ensures)
