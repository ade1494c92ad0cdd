use Rattle.coap_server_polled.proofs.ReportLemmas.{keeps_engine, open_keeps}
use Rattle.coap_server_polled.proofs.polled_server.PolledServer.open.Goals as goal

pub returns-in_err-id-clause-output : goal.returns-in_err-id-clause-output
returns-in_err-id-clause-output c = keeps_engine c.args.self.now c.open.new.self c.in_err-id.ensures.err

pub returns-clause-output : goal.returns-clause-output
returns-clause-output c =
    let e = c.connection_count-at.ensures in
    open_keeps c.args.self.now _ c.connection_count-at.result e.settled e.count c.in_ok-id.ensures.ok
    c.insert.ensures.set c.insert.ensures.others
