use Rattle.std.proofs.Common.{◌%◌, ◌==◌, rules, tests}
use Rattle.std.proofs.lemmas.Iterator.Consumers.{YieldsList-from_first}
use Rattle.std.proofs.lemmas.Iterator.Search.{any_from_yields_List}
use Rattle.coap_conn.specs.Prelude.{CoapOption, coap_option}
use Rattle.coap_conn.proofs.signal_options.has_critical_option.Goals as goal

pub returns : goal.returns
returns c =
    any_from_yields_List (λ (o : CoapOption). o.number % 2 == 1) _ _ _ c.any.ensures.ran
    (YieldsList-from_first coap_option (λ os. os) _ c.options.ensures.all) (λ x b q k. search (rules, tests))
