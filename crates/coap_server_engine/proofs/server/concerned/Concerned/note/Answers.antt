use Rattle.std.proofs.Common.{arith}
use Rattle.coap_server_engine.proofs.values.ConcernedLemmas.{quiet_covered}
use Rattle.coap_server_engine.proofs.server.concerned.Concerned.note.Goals as goal

pub returns-then-settle_bound-eq0-clause-covered : goal.returns-then-settle_bound-eq0-clause-covered
returns-then-settle_bound-eq0-clause-covered c =
    quiet_covered _ c.args.at _
    (omega (arith, c.settle_bound.ensures, c.if-settle_bound-eq0.true))
