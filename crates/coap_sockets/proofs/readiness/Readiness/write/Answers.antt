use Rattle.std.proofs.Common.{length, subst, sym}
use Rattle.coap_io.specs.streams.Wires.{IsWithin}
use Rattle.coap_sockets.specs.Ready.ActsAsOneWrite.{Answered}
use Rattle.coap_sockets.proofs.IoResultLemmas.{write_is_within}
use Rattle.coap_sockets.proofs.readiness.Readiness.write.Goals as goal

pub returns-clause-within : goal.returns-clause-within
returns-clause-within g c =
    subst (IsWithin (length c.args.bytes.now)) (sym c.write_got.ensures)
    (write_is_within _ _ c.write-answer.ensures.bound)

pub returns-clause-made : goal.returns-clause-made
returns-clause-made g c writable not_deferred =
    Answered _ c.write-answer.ensures.bound c.write-answer.ensures.bytes c.after_write.ensures c.write_got.ensures
