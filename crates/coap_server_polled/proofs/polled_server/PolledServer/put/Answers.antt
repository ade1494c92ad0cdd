use Rattle.coap_server_engine.specs.Prelude.{server_put}
use Rattle.coap_server_polled.proofs.ReportLemmas.{keeps_engine, some_changed}
use Rattle.coap_server_polled.proofs.polled_server.PolledServer.put.Goals as goal

pub returns-in_err-version-clause-output : goal.returns-in_err-version-clause-output
returns-in_err-version-clause-output c = keeps_engine c.args.self.now c.put.new.self c.in_err-version.ensures.err

pub returns-clause-output : goal.returns-clause-output
returns-clause-output c =
    some_changed c.args.self.now _ c.concerned_by-affected.result.words
    (server_put c.args.self.now.engine c.args.path.now c.args.format c.args.bytes.now) c.in_ok-version.ensures.ok
    (c.concerned_by-affected.ensures.put c.args.format c.args.bytes.now) c.join.ensures.outside
