use Rattle.std.proofs.Common.{◌≡◌, ◌+◌, ◌-◌, length, arith, ap, ◌∙◌}
use Rattle.c_handle.specs.Spans.{span_at}
use Rattle.coap_wire.specs.Spelling.{options_spelling}
use Rattle.c_api.proofs.MessageLemmas.{placed, options_placed, payload_placed}
use Rattle.c_api.proofs.messages.spans_in.Goals as goal

pub overflow_add-options_at : goal.overflow_add-options_at
overflow_add-options_at c =
    let p = placed c.args.frame.now _ _ (λ i. omega (arith, c.type_inv.frame i)) c.requires.layout c.requires.message in
    omega arith

pub overflow_sub-payload_at : goal.overflow_sub-payload_at
overflow_sub-payload_at c =
    let p = placed c.args.frame.now _ _ (λ i. omega (arith, c.type_inv.frame i)) c.requires.layout c.requires.message in
    omega (arith, ap length c.payload-payload.ensures)

pub overflow_sub-options : goal.overflow_sub-options
overflow_sub-options c =
    let p = placed c.args.frame.now _ _ (λ i. omega (arith, c.type_inv.frame i)) c.requires.layout c.requires.message in
    grind (arith, p)

pub overflow_sub-options-2 : goal.overflow_sub-options-2
overflow_sub-options-2 c =
    let p = placed c.args.frame.now _ _ (λ i. omega (arith, c.type_inv.frame i)) c.requires.layout c.requires.message in
    grind (arith, p)

pub span_within-requires : goal.span_within-requires
span_within-requires c =
    let p = placed c.args.frame.now _ _ (λ i. omega (arith, c.type_inv.frame i)) c.requires.layout c.requires.message in
    grind (arith, p)

pub span_within-requires-2 : goal.span_within-requires-2
span_within-requires-2 c =
    let p = placed c.args.frame.now _ _ (λ i. omega (arith, c.type_inv.frame i)) c.requires.layout c.requires.message in
    grind (arith, p)

pub span_within-requires-3 : goal.span_within-requires-3
span_within-requires-3 c =
    let p = placed c.args.frame.now _ _ (λ i. omega (arith, c.type_inv.frame i)) c.requires.layout c.requires.message in
    grind (arith, p)

pub returns : goal.returns
returns c =
    let f = c.args.frame in
    let l = c.args.layout in
    let m = c.args.message.now in
    let p = placed f.now l m (λ i. omega (arith, c.type_inv.frame i)) c.requires.layout c.requires.message in
    let options_at = l.token_at + l.token_length in
    let at = length f.now - length c.payload-payload.result.now in
    let payload : length c.payload-payload.result.now ≡ length m.payload = ap length c.payload-payload.ensures in
    let options : at - length c.marker_bytes.result.now - options_at ≡ length (options_spelling 0 m.options) =
    grind (arith, p) in (
      c.from.ensures ∙ c.byte.ensures ∙ c.code.ensures,
      (
        (l.token_at, (omega arith, (c.span_within.ensures ∙ ap (span_at f l.token_at) p.token_length, p.token))),
        (
          (
            options_at,
            (omega arith, (c.span_within-2.ensures ∙ ap (span_at f options_at) options, options_placed f.now l m p)),
          ),
          (
            at,
            (
              omega arith,
              (c.span_within-3.ensures ∙ ap (span_at f at) payload, payload_placed f.now l m at p (omega arith)),
            ),
          ),
        ),
      ),
    )
