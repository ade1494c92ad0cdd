use Rattle.std.proofs.Common.{List, ℕ, ap, ◌∙◌, take, ◌++◌, arith}
use Rattle.coap_wire.specs.Reading.{declared_of}
use Rattle.coap_log.proofs.TapLemmas.{declared_by_head, cut_twice}
use Rattle.coap_log.proofs.tap.declared_after.Goals as goal

pub returns : goal.returns
returns c =
    c.declared.ensures.exact
    ∙ ap declared_of (c.as_slice.ensures.value ∙ c.fill-2.ensures ∙ ap (λ (l : List ℕ). take 8 (l ++ c.args.piece.now))
    (c.fill.ensures ∙ ap (λ (l : List ℕ). take 8 (l ++ c.args.kept.now)) c.new-head.ensures)
    ∙ cut_twice 8 c.args.kept.now c.args.piece.now)
    ∙ declared_by_head 8 (c.args.kept.now ++ c.args.piece.now) (omega arith)
