use Rattle.std.proofs.Common.{length, subst, sym}
use Rattle.coap_io.specs.streams.Wires.{IsWithin}
use Rattle.coap_sockets.specs.Ready.ActsAsOneRead.{Answered}
use Rattle.coap_sockets.proofs.IoResultLemmas.{read_is_within}
use Rattle.coap_sockets.proofs.readiness.Readiness.read.Goals as goal

pub returns-clause-within : goal.returns-clause-within
returns-clause-within g c =
    subst (IsWithin (length c.read-answer.new.buf)) (sym c.read_got.ensures)
    (read_is_within _ _ c.read-answer.ensures.bound)

pub returns-clause-made : goal.returns-clause-made
returns-clause-made g c readable =
    Answered _ c.read-answer.ensures.bound c.read-answer.ensures.bytes (rw c.read-answer.auto.buf c.after_read.ensures)
    c.read_got.ensures
