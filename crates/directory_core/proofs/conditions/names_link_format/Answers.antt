use Rattle.std.proofs.Common.{rules, tests}
use Rattle.std.proofs.lemmas.Iterator.Consumers.{YieldsList-from_first}
use Rattle.std.proofs.lemmas.Iterator.Search.{all_from_yields_List}
use Rattle.directory_core.specs.Prelude.{coap_option, names_link_format as names}
use Rattle.directory_core.proofs.conditions.names_link_format.Goals as goal

pub returns : goal.returns
returns c =
    all_from_yields_List (names c.args.number) _ _ _ c.all.ensures.ran
    (YieldsList-from_first coap_option (λ os. os) _ c.known.ensures) (λ x b q k. search (rules, tests))
