-- The pieces before the next one were written.
use Rattle.std.proofs.Common.{◌≡◌, false, map, drop}
use Rattle.coap_record.specs.Prelude.{concat}
use Rattle.coap_record.specs.Prelude.{WritesUpTo}
use Rattle.coap_record.proofs.pieces.write_pieces.Given as goal

abbrev pub invariant-loop-piece : goal.invariant-loop-piece
invariant-loop-piece g l =
    record {
      writes : WritesUpTo (concat (map (λ p. p.now) l.pieces)) (concat (map (λ p. p.now) (drop l.piece-index l.pieces)))
          (g.O.Outlet.written l.fn.outlet) (g.O.Outlet.written l.outlet);
      works : g.O.Outlet.is_failed l.outlet ≡ false;
    }
