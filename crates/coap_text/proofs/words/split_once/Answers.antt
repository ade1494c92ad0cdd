use Rattle.std.proofs.Common.{◌==◌, ◌∙◌, sym, rules, tests}
use Rattle.std.proofs.lemmas.Iterator.{YieldsList-from_slice}
use Rattle.std.proofs.lemmas.Iterator.Search.{position_from_yields_List}
use Rattle.coap_text.proofs.WordLemmas.{one_part, first_part}
use Rattle.coap_text.proofs.words.split_once.Goals as goal

pub returns-in_err-at-clause-parts : goal.returns-in_err-at-clause-parts
returns-in_err-at-clause-parts c =
    let place = position_from_yields_List (λ b. b == c.args.separator) _ _ c.position.result c.position.ensures.ran
    (YieldsList-from_slice c.args.bytes.now cc) (λ x b q k. search (rules, tests)) in
    rw c.from_residual.ensures (one_part c.args.separator c.args.bytes.now (sym place ∙ c.in_err-at.was))

pub returns-clause-parts : goal.returns-clause-parts
returns-clause-parts c =
    let place = position_from_yields_List (λ b. b == c.args.separator) _ _ c.position.result c.position.ensures.ran
    (YieldsList-from_slice c.args.bytes.now cc) (λ x b q k. search (rules, tests)) in
    first_part c.args.separator c.args.bytes.now c.in_ok-at.at (sym place ∙ c.in_ok-at.was)
