-- The bytes that are not in the queue any more were written.
use Rattle.std.proofs.Common.{◌≡◌, false, length}
use Rattle.coap_record.specs.Prelude.{WritesUpTo, room_in}
use Rattle.coap_record.proofs.buffered.write_queue.Given as goal

abbrev pub invariant-loop-queue : goal.invariant-loop-queue
invariant-loop-queue g l =
    record {
      writes : WritesUpTo l.fn.queue.waiting l.queue.waiting (g.O.Outlet.written l.fn.outlet)
          (g.O.Outlet.written l.outlet);
      works : g.O.Outlet.is_failed l.outlet ≡ false;
      room : room_in l.queue ≡ room_in l.fn.queue;
    }

abbrev pub decreases-loop-queue : goal.decreases-loop-queue
decreases-loop-queue g l = length l.queue.waiting
