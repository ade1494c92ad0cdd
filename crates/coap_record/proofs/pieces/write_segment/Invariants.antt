-- The text was written, except for what is left to escape.
use Rattle.std.proofs.Common.{◌≡◌, false, ◌∷◌}
use Rattle.percent_encoding.specs.Iter.{encoded_text}
use Rattle.coap_record.specs.Prelude.{flat_map, encoded_byte, slash}
use Rattle.coap_record.specs.Prelude.{WritesUpTo}
use Rattle.coap_record.proofs.pieces.write_segment.Given as goal

abbrev pub invariant-loop-piece : goal.invariant-loop-piece
invariant-loop-piece g l =
    record {
      writes : WritesUpTo (slash ∷ flat_map encoded_byte l.segment) (encoded_text l.piece-iterator)
          (g.O.Outlet.written l.fn.outlet) (g.O.Outlet.written l.outlet);
      works : g.O.Outlet.is_failed l.outlet ≡ false;
    }
