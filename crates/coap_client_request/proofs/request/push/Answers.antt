use Rattle.std.proofs.Common.{arith}
use Rattle.coap_client_request.proofs.RequestLemmas.{row_pushed}
use Rattle.coap_client_request.proofs.request.push.Goals as goal

pub returns-clause-row : goal.returns-clause-row
returns-clause-row c =
    rw c.push.ensures.items (row_pushed c.args.number c.args.options.now.items c.args.value c.requires.row
    (omega (arith, c.ranges.number)) c.requires.short)
