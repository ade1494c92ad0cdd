use Rattle.std.proofs.Common.{◌∙◌}
use Rattle.coap_io.proofs.streams.DeviceLemmas.{not_failed_write}
use Rattle.coap_record.proofs.WriteLemmas.{piece_written, part_of_queue, part_fits, room_stays}
use Rattle.coap_record.proofs.buffered.write_queue.Goals as goal

pub loop-queue-preserved : goal.loop-queue-preserved
loop-queue-preserved g c =
    let split = part_of_queue c.loop-queue.queue.waiting _ _ c.in-Some.count c.parts.ensures
    c.first_part-part.ensures.front c.in-Some.ensures.within in
    let fits = part_fits _ _ c.loop-queue.queue.waiting c.in-Some.count c.parts.ensures c.first_part-part.ensures.front
    c.in-Some.ensures.within in
    record {
      writes =
          rw c.written.ensures
          (piece_written _ _ _ _ _ _ _ c.loop-queue.invariant.writes split c.in-Some.ensures.taken);
      works =
          not_failed_write c.in-Some.count _ _ _ c.if-count-eq0.false c.loop-queue.invariant.works
          c.in-Some.ensures.failure;
      room = room_stays _ _ _ c.written.ensures fits c.waiting.ensures.within.within ∙ c.loop-queue.invariant.room;
    }
