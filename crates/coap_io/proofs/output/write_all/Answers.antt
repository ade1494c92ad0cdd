use Rattle.coap_io.proofs.streams.DeviceLemmas.{not_failed_write}
use Rattle.coap_io.proofs.streams.WriteLemmas.{rest_of, more_written}
use Rattle.coap_io.proofs.output.write_all.Goals as goal

pub loop-left-preserved : goal.loop-left-preserved
loop-left-preserved g c = record {
  writes =
      rw (rest_of c.in-Some.count c.loop-left.left.now)
      (more_written _ _ _ _ _ c.loop-left.invariant.writes c.in-Some.count c.in-Some.ensures.taken);
  works =
      not_failed_write c.in-Some.count c.loop-left.left.now _ _ c.if-count-eq0.false c.loop-left.invariant.works
      c.in-Some.ensures.failure;
}
