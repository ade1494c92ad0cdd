-- The segments before those left were written.
use Rattle.std.proofs.Common.{◌≡◌, false}
use Rattle.coap_record.specs.Prelude.{path_word, path_bytes}
use Rattle.coap_record.specs.Prelude.{WritesUpTo}
use Rattle.coap_record.proofs.pieces.write_path.Given as goal

abbrev pub invariant-loop-segment : goal.invariant-loop-segment
invariant-loop-segment g l =
    record {
      writes : WritesUpTo (path_word l.path) (path_bytes l.segment-iterator) (g.O.Outlet.written l.fn.outlet)
          (g.O.Outlet.written l.outlet);
      works : g.O.Outlet.is_failed l.outlet ≡ false;
    }
