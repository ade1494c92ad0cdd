use Rattle.std.proofs.Common.{arith}
use Rattle.coap_wire.proofs.HeadLaws.{declares}
use Rattle.coap_wire.proofs.size.declared.Goals as goal

pub returns-in-Unknown-clause-declared : goal.returns-in-Unknown-clause-declared
returns-in-Unknown-clause-declared c =
    rw (← c.in-Unknown.ensures.declared) at (declares c.args.head.now (λ i. omega (arith, c.type_inv.head i)))

pub returns-in-BadToken-clause-declared : goal.returns-in-BadToken-clause-declared
returns-in-BadToken-clause-declared c =
    rw (← c.in-BadToken.ensures.declared) at (declares c.args.head.now (λ i. omega (arith, c.type_inv.head i)))

pub returns-in-Known-clause-declared : goal.returns-in-Known-clause-declared
returns-in-Known-clause-declared c =
    rw (← c.in-Known.ensures.declared) at (declares c.args.head.now (λ i. omega (arith, c.type_inv.head i)))
