use Rattle.std.proofs.Common.{subst}
use Rattle.coap_record.specs.Prelude.{AddsBytes, WritesPart}
use Rattle.coap_record.proofs.WriteLemmas.{piece_written, piece_cut, all_written, fault_text, digits_split}
use Rattle.coap_record.proofs.WriteLemmas.{digits_before, no_digits}
use Rattle.coap_record.proofs.pieces.write_hex.Goals as goal

pub returns-in_err-write_all-clause-text : goal.returns-in_err-write_all-clause-text
returns-in_err-write_all-clause-text g c =
    let split = digits_split _ _ _ _ c.split_at.ensures.front c.split_at.ensures.back in
    let written = digits_before c.split_at.result.0.now _ _ c.in-Ok.ensures.written in
    fault_text _ _ _ _ c.from_residual.ensures.0
    (piece_cut _ _ _ _ _ _ _ c.loop-left.invariant.writes split
    (subst (WritesPart _ _) written c.in_err-write_all.ensures.part))

pub loop-left-preserved : goal.loop-left-preserved
loop-left-preserved g c =
    let split = digits_split _ _ _ _ c.split_at.ensures.front c.split_at.ensures.back in
    let written = digits_before c.split_at.result.0.now _ _ c.in-Ok.ensures.written in
    record {
      writes =
          piece_written _ _ _ _ _ _ _ c.loop-left.invariant.writes split
          (subst (AddsBytes _ _) written c.in_ok-write_all.ensures.ok);
      works = c.in_ok-write_all.ensures.failure;
    }

pub returns-clause-text : goal.returns-clause-text
returns-clause-text g c =
    all_written _ _ _ _ c.loop-left.invariant.writes (no_digits c.loop-left.left.now c.loop-left-test.ensures)
