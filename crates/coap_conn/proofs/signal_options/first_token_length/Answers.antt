use Rattle.std.proofs.Common.{rules, tests}
use Rattle.std.proofs.lemmas.Iterator.Consumers.{YieldsList-from_first}
use Rattle.std.proofs.lemmas.Iterator.Search.{find_from_yields_List}
use Rattle.coap_conn.specs.Prelude.{coap_option, is_token_length}
use Rattle.coap_conn.proofs.signal_options.first_token_length.Goals as goal

pub returns : goal.returns
returns c =
    find_from_yields_List is_token_length _ _ c.find.result c.find.ensures.ran
    (YieldsList-from_first coap_option (λ os. os) _ c.options.ensures.all) (λ x b q k. search (rules, tests))
