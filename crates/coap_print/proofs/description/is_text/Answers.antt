use Rattle.std.proofs.Common.{rules, tests}
use Rattle.std.proofs.lemmas.Iterator.{YieldsList-from_slice}
use Rattle.std.proofs.lemmas.Iterator.Search.{all_from_yields_List}
use Rattle.coap_print.specs.Texts.{is_printable}
use Rattle.coap_print.proofs.description.is_text.Goals as goal

pub returns : goal.returns
returns c =
    all_from_yields_List is_printable _ _ c.all.result c.all.ensures.ran (YieldsList-from_slice c.args.bytes.now cc)
    (λ x b q k. search (rules, tests))
