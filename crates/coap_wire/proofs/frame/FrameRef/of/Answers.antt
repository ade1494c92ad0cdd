use Rattle.std.proofs.Common.{sym}
use Rattle.coap_wire.proofs.LayoutLaws.{head_unknown, head_bad_token, head_other_size}
use Rattle.coap_wire.proofs.frame.FrameRef.of.Goals as goal

pub returns-then-size-bytes-clause-err : goal.returns-then-size-bytes-clause-err
returns-then-size-bytes-clause-err c =
    head_other_size c.args.bytes.now c.in-Known.size c.in-Known.layout
    (sym c.in-Known.ensures.exact) c.if-size-bytes.true

pub returns-in-Unknown-clause-err : goal.returns-in-Unknown-clause-err
returns-in-Unknown-clause-err c = head_unknown c.args.bytes.now (sym c.in-Unknown.ensures.exact)

pub returns-in-BadToken-clause-err : goal.returns-in-BadToken-clause-err
returns-in-BadToken-clause-err c = head_bad_token c.args.bytes.now (sym c.in-BadToken.ensures.exact)
