use Rattle.std.proofs.Common.{arith}
use Rattle.coap_server_engine.proofs.values.ResponseLemmas.{failure_short}
use Rattle.coap_server_engine.proofs.server.requests.failure_frame.Goals as goal

pub write-requires : goal.write-requires
write-requires c = (
  omega arith,
  rw (c.new-failure.ensures, c.new-frame.ensures) (failure_short _
      (rw c.as_slice.ensures.value at c.as_slice.ensures.fits)),
)
