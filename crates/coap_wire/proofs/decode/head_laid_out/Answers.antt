use Rattle.std.proofs.Common.{length, arith, ap}
use Rattle.std.proofs.lemmas.List.{length-drop, length-take}
use Rattle.coap_wire.proofs.LayoutLaws.{laid_out_parts}
use Rattle.coap_wire.proofs.decode.head_laid_out.Goals as goal

pub split_at-requires : goal.split_at-requires
split_at-requires c =
    let parts = laid_out_parts c.args.frame.now c.args.layout (λ i. omega (arith, c.type_inv.frame i)) c.requires in
    omega (arith, parts.token_within)

pub split_at-requires-2 : goal.split_at-requires-2
split_at-requires-2 c =
    let parts = laid_out_parts c.args.frame.now c.args.layout (λ i. omega (arith, c.type_inv.frame i)) c.requires in
    omega (
      arith,
      parts.token_within,
      ap length c.split_at.ensures.back,
      length-drop c.args.layout.token_at c.args.frame.now,
    )

pub of_bytes-requires : goal.of_bytes-requires
of_bytes-requires c =
    let parts = laid_out_parts c.args.frame.now c.args.layout (λ i. omega (arith, c.type_inv.frame i)) c.requires in
    omega (
      arith,
      parts.short,
      ap length c.split_at-2.ensures.front,
      length-take c.args.layout.token_length c.split_at.result.1.now,
    )

pub bounds-frame-layout : goal.bounds-frame-layout
bounds-frame-layout c =
    (laid_out_parts c.args.frame.now c.args.layout (λ i. omega (arith, c.type_inv.frame i)) c.requires).code_within

pub returns : goal.returns
returns c =
    let parts = laid_out_parts c.args.frame.now c.args.layout (λ i. omega (arith, c.type_inv.frame i)) c.requires in
    rw (
      c.new.ensures,
      c.of_bytes.ensures,
      c.split_at-2.ensures.front,
      c.split_at-2.ensures.back,
      c.split_at.ensures.back,
    ) parts.head
