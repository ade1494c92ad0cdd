use Rattle.std.proofs.Common.{◌≡◌, Option, subst, sym, ap, ◌∙◌, map, rules, tests, nat_lt, IfOk, option_map}
use Rattle.std.proofs.lemmas.Iterator.{YieldsList-from_slice}
use Rattle.std.proofs.lemmas.Iterator.Search.{all_from_yields_List}
use Rattle.coap_script.specs.Prelude.{ScriptEventValue, event_of, event_value, words_of}
use Rattle.coap_script.proofs.scripting.ScriptLemmas.{event_of_words, too_many_words}
use Rattle.coap_script.proofs.scripts.events.event_in.Goals as goal

pub returns-in_default : goal.returns-in_default
returns-in_default c =
    let all = all_from_yields_List (λ b. nat_lt b 128) _ _ c.all.result c.all.ensures.ran
    (YieldsList-from_slice c.args.line.now cc) (λ x b q k. search (rules, tests)) in
    sym (too_many_words (words_of c.args.line.now) c.in_default.ensures.many)
    ∙ event_of_words c.args.line.now (sym all ∙ c.if-not-all.false)

pub returns : goal.returns
returns c =
    let all = all_from_yields_List (λ b. nat_lt b 128) _ _ c.all.result c.all.ensures.ran
    (YieldsList-from_slice c.args.line.now cc) (λ x b q k. search (rules, tests)) in
    let words = ap (map (λ w. w.now)) c.as_slice.ensures.value ∙ c.in-Some.ensures.few in
    subst (λ (event : Option ScriptEventValue). IfOk c.event_of.result (λ found. option_map event_value found ≡ event))
    (ap event_of words ∙ event_of_words c.args.line.now (sym all ∙ c.if-not-all.false)) c.event_of.ensures
