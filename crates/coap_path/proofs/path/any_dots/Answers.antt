use Rattle.std.proofs.Common.{sym, ◌∙◌, rules, tests}
use Rattle.std.proofs.lemmas.Iterator.{YieldsList-from_slice}
use Rattle.std.proofs.lemmas.Iterator.Search.{any_from_yields_List}
use Rattle.coap_path.specs.Prelude.{is_dots}
use Rattle.coap_path.proofs.PathLemmas.{any_segment}
use Rattle.coap_path.proofs.path.any_dots.Goals as goal

pub returns : goal.returns
returns c =
    let segments = c.args.segments.now in
    any_from_yields_List (λ s. is_dots s.now) _ _ _ c.any.ensures.ran (YieldsList-from_slice segments cc)
    (λ x b q k. search (rules, tests))
    ∙ sym (any_segment is_dots segments)
