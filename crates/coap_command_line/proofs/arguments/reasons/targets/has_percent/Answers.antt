use Rattle.std.proofs.Common.{rules, tests}
use Rattle.std.proofs.lemmas.Iterator.{YieldsList-from_slice}
use Rattle.std.proofs.lemmas.Iterator.Search.{any_from_yields_List}
use Rattle.coap_command_line.specs.Reasons.{is_percent}
use Rattle.coap_command_line.proofs.arguments.reasons.targets.has_percent.Goals as goal

pub returns : goal.returns
returns c =
    any_from_yields_List is_percent _ _ _ c.any.ensures.ran (YieldsList-from_slice c.args.bytes.now cc)
    (λ x b q k. search (rules, tests))
