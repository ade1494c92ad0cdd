use Rattle.std.proofs.Common.{sym, ◌∙◌, ◌∷◌, []}
use Rattle.coap_record.specs.Prelude.{slash}
use Rattle.coap_record.proofs.WriteLemmas.{nothing_yet, piece_written, piece_cut, all_written, fault_text, fault_first}
use Rattle.coap_record.proofs.WriteLemmas.{text_is, text_of_all, path_root, path_first, path_next, no_segments}
use Rattle.coap_record.proofs.pieces.write_path.Goals as goal

pub returns-in_default-clause-text : goal.returns-in_default-clause-text
returns-in_default-clause-text g c =
    text_is _ _ (slash ∷ []) _ c.write_all.result
    (path_root c.args.path.now (sym c.segments-segments.ensures.value ∙ c.in_default.ensures.steps.0))
    (text_of_all _ _ _ c.write_all.result c.write_all.ensures.ok c.write_all.ensures.part)

pub returns-in_err-write_segment-clause-text : goal.returns-in_err-write_segment-clause-text
returns-in_err-write_segment-clause-text g c =
    fault_first _ _ _ _ _ _ c.from_residual.ensures.0
    (path_first c.args.path.now _ _ (sym c.segments-segments.ensures.value ∙ c.in-Some.ensures.steps))
    c.in_err-write_segment.ensures.text

pub loop-segment-init : goal.loop-segment-init
loop-segment-init g c =
    let first = path_first c.args.path.now _ _ (sym c.segments-segments.ensures.value ∙ c.in-Some.ensures.steps) in
    record {
      writes =
          rw c.into_iter-segment-iterator.ensures.into_iter_gives
          (piece_written _ _ _ _ _ _ _ (nothing_yet _ _) first c.in_ok-write_segment.ensures.text);
      works = c.in_ok-write_segment.ensures.failure;
    }

pub loop-segment-preserved : goal.loop-segment-preserved
loop-segment-preserved g c = record {
  writes =
      piece_written _ _ _ _ _ _ _ c.loop-segment.invariant.writes (path_next _ _ _ c.in-Some-segment.ensures.steps)
      c.in_ok-write_segment-2.ensures.text;
  works = c.in_ok-write_segment-2.ensures.failure;
}

pub returns-in_err-write_segment-2-clause-text : goal.returns-in_err-write_segment-2-clause-text
returns-in_err-write_segment-2-clause-text g c =
    fault_text _ _ _ _ c.from_residual-in_err-write_segment-2.ensures.0
    (piece_cut _ _ _ _ _ _ _ c.loop-segment.invariant.writes (path_next _ _ _ c.in-Some-segment.ensures.steps)
    c.in_err-write_segment-2.ensures.text)

pub returns-clause-text : goal.returns-clause-text
returns-clause-text g c = all_written _ _ _ _ c.loop-segment.invariant.writes (no_segments _ c.in-None.ensures.steps.0)
