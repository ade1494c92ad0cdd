use Rattle.std.proofs.Common.{ap, ◌∙◌, codes}
use Rattle.coap_print.specs.Lines.{appended}
use Rattle.coap_print.proofs.LineLaws.{joined}
use Rattle.coap_print.specs.Texts.{is_text}
use Rattle.coap_print.specs.declared.line.TheConstants.{LINE_LENGTH}
use Rattle.coap_log.specs.Times.{local_text}
use Rattle.coap_log.proofs.TimeLemmas.{moment}
use Rattle.coap_log.proofs.moment.append_moment.Goals as goal

pub text-requires : goal.text-requires
text-requires c = ap is_text (c.as_str.ensures.value ∙ c.text_of.ensures) ∙ moment c.args.digits c.args.moment

pub returns : goal.returns
returns c =
    joined LINE_LENGTH c.args.line.now c.text.new.self c.text-2.new.self (local_text c.args.digits c.args.moment)
    (codes "Z")
    (c.text.ensures ∙ ap (appended LINE_LENGTH c.args.line.now) (c.as_str.ensures.value ∙ c.text_of.ensures))
    c.text-2.ensures
