use Rattle.std.proofs.Common.{sym, ◌∙◌, rules, refl}
use Rattle.coap_script.specs.Prelude.{format_value}
use Rattle.coap_script.proofs.scripting.WordLemmas.{format_read}
use Rattle.coap_script.proofs.scripts.words.format_in.Goals as goal

pub returns-then-is_hyphen : goal.returns-then-is_hyphen
unfolding format_value
returns-then-is_hyphen c = search rules

pub returns-in_err-number : goal.returns-in_err-number
unfolding format_value
returns-in_err-number c =
    rw c.from_residual.ensures (rw ((sym c.if-is_hyphen.ensures), (sym c.number_in.ensures ∙ c.in_err-number.was)) refl)

pub returns-in_err-format : goal.returns-in_err-format
returns-in_err-format c =
    let is = sym c.number_in.ensures ∙ c.in_ok-number.was in
    let read = format_read c.args.word.now c.in_ok-number.number c.try_from.result (sym c.if-is_hyphen.ensures)
    is c.try_from.ensures in
    rw c.from_residual-in_err-format.ensures (rw (sym c.ok.ensures.value ∙ c.in_err-format.was) at read)

pub returns : goal.returns
returns c =
    let is = sym c.number_in.ensures ∙ c.in_ok-number.was in
    let read = format_read c.args.word.now c.in_ok-number.number c.try_from.result (sym c.if-is_hyphen.ensures)
    is c.try_from.ensures in
    rw (sym c.ok.ensures.value ∙ c.in_ok-format.was) at read
