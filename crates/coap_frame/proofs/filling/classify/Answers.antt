use Rattle.std.proofs.Common.{sym, arith}
use Rattle.coap_wire.proofs.StreamSteps.{begin_unknown, begin_short}
use Rattle.coap_frame.proofs.FillLemmas.{status_more, status_bad_token, status_too_large, status_whole}
use Rattle.coap_frame.proofs.filling.classify.Goals as goal

pub returns-then-size-max : goal.returns-then-size-max
returns-then-size-max c =
    rw c.size_bytes-then-size-max.ensures (status_too_large c.args.max c.args.piece.now c.in-Known.size
    (sym c.in-Known.ensures.declared) (omega (arith, c.if-size-max.true)))

pub returns-then-size-piece : goal.returns-then-size-piece
returns-then-size-piece c =
    let piece = c.args.piece.now in
    status_more c.args.max piece (begin_short c.args.max piece c.in-Known.size (sym c.in-Known.ensures.declared)
    (omega (arith, c.if-size-max.false)) (omega (arith, c.if-size-piece.true)))

pub returns-in-Unknown : goal.returns-in-Unknown
returns-in-Unknown c =
    let piece = c.args.piece.now in
    status_more c.args.max piece (begin_unknown c.args.max piece (sym c.in-Unknown.ensures.declared))

pub returns-in-BadToken : goal.returns-in-BadToken
returns-in-BadToken c =
    rw c.size_bytes.ensures (status_bad_token c.args.max c.args.piece.now (sym c.in-BadToken.ensures.declared))

pub returns-else-size-piece : goal.returns-else-size-piece
returns-else-size-piece c =
    status_whole c.args.max c.args.piece.now c.in-Known.size c.in-Known.layout (sym c.in-Known.ensures.declared)
    (sym c.in-Known.ensures.exact) (omega (arith, c.if-size-max.false)) (omega (arith, c.if-size-piece.false))
