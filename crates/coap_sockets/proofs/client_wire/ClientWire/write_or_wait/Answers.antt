use Rattle.std.proofs.Common.{length, subst, sym}
use Rattle.coap_io.specs.streams.Wires.{IsWithin}
use Rattle.coap_sockets.proofs.IoResultLemmas.{write_is_within}
use Rattle.coap_sockets.proofs.client_wire.ClientWire.write_or_wait.Goals as goal

pub returns : goal.returns
returns g c =
    subst (IsWithin (length c.args.bytes.now)) (sym c.write_got.ensures) (write_is_within _ _ c.write-2.ensures.bound)

pub returns-then-ne : goal.returns-then-ne
returns-then-ne g c =
    subst (IsWithin (length c.args.bytes.now)) (sym c.write_got-got.ensures) (write_is_within _ _ c.write.ensures.bound)
