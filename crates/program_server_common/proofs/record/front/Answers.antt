use Rattle.std.proofs.Common.{◌∙◌, ap, [], codes}
use Rattle.coap_print.specs.Lines.{appended}
use Rattle.coap_print.specs.Texts.{escaped_text}
use Rattle.coap_print.proofs.LineLaws.{appended_then}
use Rattle.coap_print.specs.declared.line.TheConstants.{LINE_LENGTH}
use Rattle.program_server_common.proofs.record.front.Goals as goal

pub returns : goal.returns
returns c =
    let named =
    c.escaped.ensures ∙ ap (λ l. appended LINE_LENGTH l (escaped_text c.as_bytes.result.now)) c.new-line.ensures
    ∙ ap (λ t. appended LINE_LENGTH [] (escaped_text t)) c.as_bytes.ensures.value in
    c.text.ensures ∙ ap (λ l. appended LINE_LENGTH l (codes ": record ended: ")) named
    ∙ appended_then LINE_LENGTH [] (escaped_text c.args.program.now) (codes ": record ended: ")
