use Rattle.std.proofs.Common.{refl, rules, tests}
use Rattle.coap_conn.specs.Prelude.{coap_option, is_bad}
use Rattle.std.proofs.lemmas.Iterator.Consumers.{YieldsList-from_first}
use Rattle.std.proofs.lemmas.Iterator.Search.{find_from_yields_List}
use Rattle.coap_conn.proofs.signal_options.bad_option.Goals as goal

pub returns-in_err-bad : goal.returns-in_err-bad
returns-in_err-bad c =
    let found = find_from_yields_List (is_bad c.args.is_long) _ _ c.find.result c.find.ensures.ran
    (YieldsList-from_first coap_option (λ os. os) _ c.options.ensures.all) (λ x b q k. search (rules, tests)) in
    rw (c.from_residual.ensures, ← found, c.in_err-bad.was) refl

pub returns : goal.returns
returns c =
    let found = find_from_yields_List (is_bad c.args.is_long) _ _ c.find.result c.find.ensures.ran
    (YieldsList-from_first coap_option (λ os. os) _ c.options.ensures.all) (λ x b q k. search (rules, tests)) in
    rw (← found, c.in_ok-bad.was) refl
