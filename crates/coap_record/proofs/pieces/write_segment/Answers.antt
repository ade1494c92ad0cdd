use Rattle.std.proofs.Common.{refl, sym, ap, ◌∙◌, arith, ◌∷◌, [], ◌++◌}
use Rattle.percent_encoding.specs.Iter.{encoded_text}
use Rattle.coap_record.specs.Prelude.{slash}
use Rattle.coap_store.proofs.EscapeLemmas.{segment_is}
use Rattle.coap_record.proofs.WriteLemmas.{nothing_yet, piece_written, piece_cut, fault_text, fault_first}
use Rattle.coap_record.proofs.pieces.write_segment.Goals as goal

pub returns-in_err-write_all-clause-text : goal.returns-in_err-write_all-clause-text
returns-in_err-write_all-clause-text g c =
    fault_first _ _ (slash ∷ []) _ _ _ c.from_residual.ensures.0 refl c.in_err-write_all.ensures.part

pub loop-piece-init : goal.loop-piece-init
loop-piece-init g c =
    let left =
    ap encoded_text c.into_iter-piece-iterator.ensures.into_iter_gives ∙ c.percent_encode-piece-items.ensures.text
    ∙ segment_is c.args.segment.now (λ k. omega (arith, c.type_inv.segment k)) in
    record {
      writes = piece_written _ _ (slash ∷ []) _ _ _ _ (nothing_yet _ _) (rw left refl) c.in_ok-write_all.ensures.ok;
      works = c.in_ok-write_all.ensures.failure;
    }

pub loop-piece-preserved : goal.loop-piece-preserved
loop-piece-preserved g c =
    let split = c.in-Some.ensures.steps ∙ ap (λ t. t ++ encoded_text c.next.new.self) (sym c.as_bytes.ensures.value) in
    record {
      writes = piece_written _ _ _ _ _ _ _ c.loop-piece.invariant.writes split c.in_ok-write_all-2.ensures.ok;
      works = c.in_ok-write_all-2.ensures.failure;
    }

pub returns-in_err-write_all-2-clause-text : goal.returns-in_err-write_all-2-clause-text
returns-in_err-write_all-2-clause-text g c =
    let split = c.in-Some.ensures.steps ∙ ap (λ t. t ++ encoded_text c.next.new.self) (sym c.as_bytes.ensures.value) in
    fault_text _ _ _ _ c.from_residual-in_err-write_all-2.ensures.0
    (piece_cut _ _ _ _ _ _ _ c.loop-piece.invariant.writes split c.in_err-write_all-2.ensures.part)
