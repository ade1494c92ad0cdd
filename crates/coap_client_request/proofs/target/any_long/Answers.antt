use Rattle.std.proofs.Common.{sym, ◌∙◌, rules, tests}
use Rattle.std.proofs.lemmas.Iterator.{YieldsList-from_slice}
use Rattle.std.proofs.lemmas.Iterator.Search.{any_from_yields_List}
use Rattle.coap_client_request.specs.Prelude.{is_long}
use Rattle.coap_client_request.proofs.TargetLemmas.{any_part}
use Rattle.coap_client_request.proofs.target.any_long.Goals as goal

pub returns : goal.returns
returns c =
    let parts = c.args.parts.now in
    any_from_yields_List (λ part. is_long part.items) _ _ _ c.any.ensures.ran (YieldsList-from_slice parts cc)
    (λ x b q k. search (rules, tests))
    ∙ sym (any_part is_long parts)
