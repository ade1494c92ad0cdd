use Rattle.coap_record.proofs.WriteLemmas.{piece_written, piece_cut, fault_text, pieces_go_on}
use Rattle.coap_record.proofs.pieces.write_pieces.Goals as goal

pub returns-in_err-write_all-clause-text : goal.returns-in_err-write_all-clause-text
returns-in_err-write_all-clause-text g c =
    fault_text _ _ _ _ c.from_residual.ensures.0
    (piece_cut _ _ _ _ _ _ _ c.loop-piece.invariant.writes
    (pieces_go_on c.args.pieces.now c.loop-piece.piece-index c.loop-piece-test.true) c.in_err-write_all.ensures.part)

pub loop-piece-preserved : goal.loop-piece-preserved
loop-piece-preserved g c = record {
  writes =
      piece_written _ _ _ _ _ _ _ c.loop-piece.invariant.writes
      (pieces_go_on c.args.pieces.now c.loop-piece.piece-index c.loop-piece-test.true) c.in_ok-write_all.ensures.ok;
  works = c.in_ok-write_all.ensures.failure;
}
