-- The digits of the bytes before those left were written.
use Rattle.std.proofs.Common.{◌≡◌, false, length}
use Rattle.coap_record.specs.Prelude.{encode_lower}
use Rattle.coap_record.specs.Prelude.{WritesUpTo}
use Rattle.coap_record.proofs.pieces.write_hex.Given as goal

abbrev pub invariant-loop-left : goal.invariant-loop-left
invariant-loop-left g l =
    record {
      writes : WritesUpTo (encode_lower l.fn.bytes) (encode_lower l.left) (g.O.Outlet.written l.fn.outlet)
          (g.O.Outlet.written l.outlet);
      works : g.O.Outlet.is_failed l.outlet ≡ false;
    }

abbrev pub decreases-loop-left : goal.decreases-loop-left
decreases-loop-left g l = length l.left
