use Rattle.coap_server_engine.proofs.values.ServingLemmas.{taken_stays}
use Rattle.coap_server_engine.proofs.server.Server.take_at.Goals as goal

pub returns-clause-lies : goal.returns-clause-lies
returns-clause-lies c =
    let taken = rw c.in_ok-take_request_at.was at c.take_request_at.follows.holds-at-none in
    rw taken.0 (taken_stays _ c.args.index.id _ c.args.piece.now c.requires)
