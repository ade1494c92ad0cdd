use Rattle.std.proofs.Common.{◌==◌, rules, tests}
use Rattle.std.proofs.lemmas.Iterator.Consumers.{YieldsList-from_first}
use Rattle.std.proofs.lemmas.Iterator.Search.{any_from_yields_List}
use Rattle.directory_core.specs.Prelude.{CoapOption, coap_option}
use Rattle.directory_core.proofs.conditions.has_option.Goals as goal

pub returns : goal.returns
returns c =
    any_from_yields_List (λ (o : CoapOption). o.number == c.args.number) _ _ _ c.any.ensures.ran
    (YieldsList-from_first coap_option (λ os. os) _ c.known.ensures) (λ x b q k. search (rules, tests))
