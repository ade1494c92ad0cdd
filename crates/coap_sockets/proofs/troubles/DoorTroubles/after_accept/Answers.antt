use Rattle.std.proofs.Common.{ap, sym, ◌∙◌, rules}
use Rattle.std.proofs.Math.Facts.{to_z-of_z}
use mir.Syntax.{w32}
use mir.Val.{SFits}
use Rattle.std.specs.IoError.{raw_os_error}
use Rattle.coap_sockets.specs.Troubles as spec
use Rattle.coap_sockets.proofs.IoResultLemmas.{another_has_failed}
use Rattle.coap_sockets.proofs.troubles.DoorTroubles.after_accept.Goals as goal

pub returns-in-WouldBlock : goal.returns-in-WouldBlock
unfolding spec.after_accept
returns-in-WouldBlock c =
    ap (λ k. spec.after_accept c.args.self k (raw_os_error c.args.error)) (sym c.in-WouldBlock.is ∙ c.kind.ensures)

pub returns-in-Interrupted : goal.returns-in-Interrupted
unfolding spec.after_accept
returns-in-Interrupted c =
    ap (λ k. spec.after_accept c.args.self k (raw_os_error c.args.error)) (sym c.in-Interrupted.is ∙ c.kind.ensures)

pub returns-in_default : goal.returns-in_default
returns-in_default c =
    let fits : SFits w32 c.number_of.result = search rules in
    c.after_failure.ensures
    ∙ ap (λ n. spec.after_failure c.args.self n) (to_z-of_z fits ∙ c.number_of.ensures)
    ∙ another_has_failed c.args.self _ (raw_os_error c.args.error)
    (λ is. c.in_default.not-WouldBlock (c.kind.ensures ∙ is))
    (λ is. c.in_default.not-Interrupted (c.kind.ensures ∙ is))
