use Rattle.std.proofs.Common.{arith, sym, ◌∙◌}
use Rattle.c_api.proofs.MessageLemmas.{outlined, laid_out_so}
use Rattle.c_api.proofs.messages.message_spans.Goals as goal

pub unreachable-requires : goal.unreachable-requires
unreachable-requires c =
    let o = outlined c.args.frame.now c.in_ok-message.message (λ i. omega (arith, c.type_inv.frame i))
    (sym c.parse.ensures.exact ∙ c.in_ok-message.was) in
    c.in_default.not-Known _ o.0 (c.outline.ensures.exact ∙ o.1)

pub spans_in-requires-clause-layout : goal.spans_in-requires-clause-layout
spans_in-requires-clause-layout c =
    laid_out_so c.args.frame.now c.in_ok-message.message c.in-Known.size c.in-Known.layout
    (λ i. omega (arith, c.type_inv.frame i)) (sym c.parse.ensures.exact ∙ c.in_ok-message.was)
    (sym c.outline.ensures.exact ∙ c.in-Known.is)
