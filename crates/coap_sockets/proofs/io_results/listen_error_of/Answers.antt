use Rattle.std.proofs.Common.{ap, sym, ◌∙◌, rules}
use Rattle.std.proofs.Math.Facts.{to_z-of_z}
use mir.Syntax.{w32}
use mir.Val.{SFits}
use Rattle.std.specs.IoError.{raw_os_error}
use Rattle.coap_sockets.specs.declared.io_results.ListenError.TheVariants as listening
use Rattle.coap_sockets.specs.IoResults as spec
use Rattle.coap_sockets.proofs.IoResultLemmas.{another_is_another_listen_error}
use Rattle.coap_sockets.proofs.io_results.listen_error_of.Goals as goal

pub returns-in-AddrInUse : goal.returns-in-AddrInUse
unfolding spec.listen_error_of
returns-in-AddrInUse c =
    ap (λ k. spec.listen_error_of k (raw_os_error c.args.error)) (sym c.in-AddrInUse.is ∙ c.kind.ensures)

pub returns-in-PermissionDenied : goal.returns-in-PermissionDenied
unfolding spec.listen_error_of
returns-in-PermissionDenied c =
    ap (λ k. spec.listen_error_of k (raw_os_error c.args.error)) (sym c.in-PermissionDenied.is ∙ c.kind.ensures)

pub returns-in-AddrNotAvailable : goal.returns-in-AddrNotAvailable
unfolding spec.listen_error_of
returns-in-AddrNotAvailable c =
    ap (λ k. spec.listen_error_of k (raw_os_error c.args.error)) (sym c.in-AddrNotAvailable.is ∙ c.kind.ensures)

pub returns-in_default : goal.returns-in_default
returns-in_default c =
    let fits : SFits w32 c.number_of.result = search rules in
    ap listening.System (to_z-of_z fits ∙ c.number_of.ensures)
    ∙ another_is_another_listen_error _ (raw_os_error c.args.error)
    (λ is. c.in_default.not-AddrInUse (c.kind.ensures ∙ is))
    (λ is. c.in_default.not-PermissionDenied (c.kind.ensures ∙ is))
    (λ is. c.in_default.not-AddrNotAvailable (c.kind.ensures ∙ is))
