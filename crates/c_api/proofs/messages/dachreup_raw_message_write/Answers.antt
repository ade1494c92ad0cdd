use Rattle.std.proofs.Common.{◌≡◌, ◌≤◌, length, arith, ap, sym, refl}
use Rattle.coap_wire.specs.Spelling.{head_spelling}
use Rattle.coap_wire.proofs.HeadSizes.{head_bound}
use Rattle.c_api.proofs.WritingLemmas.{holds_nothing, holds_more, refused_large, refused_full, written}
use Rattle.c_api.proofs.messages.dachreup_raw_message_write.Goals as goal

pub write_head-requires-clause-room : goal.write_head-requires-clause-room
write_head-requires-clause-room c =
    let token : length c.args.token.now ≤ 64 = omega (arith, c.if-token-gt-MAX_TOKEN.false) in
    omega (
      arith,
      head_bound c.new.result c.args.token.now c.saturating_add-body.result token,
      ap length c.new-head.ensures,
    )

pub returns-then-body-gt-LARGEST_MESSAGE : goal.returns-then-body-gt-LARGEST_MESSAGE
returns-then-body-gt-LARGEST_MESSAGE c =
    rw (refused_large c.args.code c.args.token.now c.args.options.now c.args.payload.now _
    (λ i. omega (arith, c.type_inv.options i))
    (sym c.if-not-are_options.ensures) c.in-Ok.ensures.0 (omega (arith, c.if-token-gt-MAX_TOKEN.false))
    refl (length c.args.buffer.now) (omega (arith, ap length c.marker_bytes-marker.ensures))) (refl, (refl, refl))

pub returns-then-buffer-len : goal.returns-then-buffer-len
returns-then-buffer-len c =
    let head : c.write_head.new.out.items
    ≡ head_spelling c.args.code c.args.token.now c.saturating_add-body.result =
    rw (c.write_head.ensures.appended, c.new-head.ensures, c.new.ensures, c.in-Ok.ensures.1) in
    rw (refused_full c.args.code c.args.token.now c.args.options.now c.args.payload.now c.saturating_add-body.result
    (λ i. omega (arith, c.type_inv.options i))
    (sym c.if-not-are_options.ensures) c.in-Ok.ensures.0 (omega (arith, c.if-token-gt-MAX_TOKEN.false))
    (omega (arith, ap length c.marker_bytes-marker.ensures)) (length c.args.buffer.now)
    c.if-body-gt-LARGEST_MESSAGE.false (omega (arith, ap length head))) (refl, (refl, refl))

pub returns : goal.returns
returns c =
    let body = c.saturating_add-body.result in
    let head = c.deref.result.now in
    let head_is : head ≡ head_spelling c.args.code c.args.token.now body =
    rw (c.deref.ensures.0, c.write_head.ensures.appended, c.new-head.ensures, c.new.ensures, c.in-Ok.ensures.1) in
    let one = holds_more head (holds_nothing c.args.buffer.now) c.put-at.ensures.after c.put-at.ensures.written in
    let two = holds_more c.args.options.now one c.put-at-2.ensures.after c.put-at-2.ensures.written in
    let three = holds_more c.marker_bytes-marker.result.now two c.put-at-3.ensures.after c.put-at-3.ensures.written in
    let four = holds_more c.args.payload.now three c.put.ensures.after c.put.ensures.written in
    written c.args.code c.args.token.now c.args.options.now c.args.payload.now body
    (λ i. omega (arith, c.type_inv.options i))
    (sym c.if-not-are_options.ensures) c.in-Ok.ensures.0 (omega (arith, c.if-token-gt-MAX_TOKEN.false))
    (omega (arith, ap length c.marker_bytes-marker.ensures)) c.args.buffer.now _ _ _ _ c.args.length.now
    c.if-body-gt-LARGEST_MESSAGE.false (omega (arith, ap length head_is, ap length c.deref.ensures.0)) head_is
    c.marker_bytes-marker.ensures four
