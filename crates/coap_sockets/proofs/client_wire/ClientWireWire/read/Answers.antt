use Rattle.std.proofs.Common.{length, subst, sym}
use Rattle.coap_io.specs.streams.Wires.{IsWithin}
use Rattle.coap_sockets.proofs.IoResultLemmas.{read_is_within}
use Rattle.coap_sockets.proofs.client_wire.ClientWireWire.read.Goals as goal

pub returns-then-ne-clause-within : goal.returns-then-ne-clause-within
returns-then-ne-clause-within g c =
    subst (IsWithin (length c.read.new.buf)) (sym c.read_got-got.ensures) (read_is_within _ _ c.read.ensures.bound)

pub returns-clause-within : goal.returns-clause-within
returns-clause-within g c =
    subst (IsWithin (length c.read-2.new.buf)) (sym c.read_got.ensures) (read_is_within _ _ c.read-2.ensures.bound)
