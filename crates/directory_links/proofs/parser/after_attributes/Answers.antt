use Rattle.std.proofs.Common.{arith, ap, length}
use Rattle.std.proofs.lemmas.Bool.Decides.{nat_tests}
use Rattle.directory_links.proofs.AttributeSteps.{attribute_shorter, attributes_is}
use Rattle.directory_links.proofs.parser.after_attributes.Goals as goal

pub returns-then-first-ne59 : goal.returns-then-first-ne59
returns-then-first-ne59 c = grind (arith, nat_tests, attributes_is)

pub loop-first-smaller : goal.loop-first-smaller
loop-first-smaller c =
    let less = attribute_shorter _ _ c.in_ok-_attribute.ensures in omega (arith, ap length c.in-Some.ensures.cases.0)
