use Rattle.std.proofs.Common.{◌<◌, ◌/◌, length, rules}
use Rattle.coap_server_engine.proofs.values.IndexSetLemmas.{inserted_same, inserted_other}
use Rattle.coap_server_polled.proofs.polled_server.PolledServer.wake_at.Goals as goal

pub returns-clause-set : goal.returns-clause-set
returns-clause-set c =
    let within : c.args.at / 64 < length c.args.self.now.due.words = search rules in
    inserted_same c.args.self.now.due.words c.args.at within

pub returns-clause-others : goal.returns-clause-others
returns-clause-others c =
    let within : c.args.at / 64 < length c.args.self.now.due.words = search rules in
    inserted_other c.args.self.now.due.words c.args.at within
