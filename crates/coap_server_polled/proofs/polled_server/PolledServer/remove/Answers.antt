use Rattle.coap_server_engine.specs.Prelude.{server_removed}
use Rattle.coap_server_polled.proofs.ReportLemmas.{keeps_engine, some_changed}
use Rattle.coap_server_polled.proofs.polled_server.PolledServer.remove.Goals as goal

pub returns-in_err-remove-clause-output : goal.returns-in_err-remove-clause-output
returns-in_err-remove-clause-output c = keeps_engine c.args.self.now c.remove.new.self c.in_err-remove.ensures.err

pub returns-clause-output : goal.returns-clause-output
returns-clause-output c =
    some_changed c.args.self.now _ c.concerned_by-affected.result.words
    (server_removed c.args.self.now.engine c.args.path.now) c.in_ok-remove.ensures.ok
    c.concerned_by-affected.ensures.removed c.join.ensures.outside
