use Rattle.std.proofs.Common.{◌≡◌, false, length}
use Rattle.coap_io.proofs.streams.WriteLemmas.{WritesFront}
use Rattle.coap_io.proofs.output.write_all.Given as goal

abbrev pub invariant-loop-left : goal.invariant-loop-left
invariant-loop-left g l =
    record {
      writes : WritesFront l.fn.bytes l.left (g.W.Outlet.written l.fn.writer) (g.W.Outlet.written l.writer);
      works : g.W.Outlet.is_failed l.writer ≡ false;
    }

abbrev pub decreases-loop-left : goal.decreases-loop-left
decreases-loop-left g l = length l.left
