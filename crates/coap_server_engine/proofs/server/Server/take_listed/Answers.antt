use Rattle.std.proofs.Common.{◌≡◌, rules}
use Rattle.coap_server_engine.specs.Prelude.{server_taken}
use Rattle.coap_server_engine.proofs.values.ServingLemmas.{taken_stays}
use Rattle.coap_server_engine.proofs.server.Server.take_listed.Goals as goal

pub returns-in_ok-list_request-in-Ok-clause-lies : goal.returns-in_ok-list_request-in-Ok-clause-lies
returns-in_ok-list_request-in-Ok-clause-lies c =
    let same : c.take_request_at.follows.lender-at-none ≡ server_taken c.args.self.now c.args.id c.args.rest.now =
    search rules in
    rw same (taken_stays c.args.self.now c.args.id c.args.at c.args.rest.now c.requires)
