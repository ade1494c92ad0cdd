use Rattle.std.proofs.Common.{◌∙◌}
use Rattle.coap_server_engine.specs.Prelude.{session_announced}
use Rattle.coap_server_polled.proofs.ReportLemmas.{keeps_engine, one_changed}
use Rattle.coap_server_polled.proofs.polled_server.PolledServer.announce.Goals as goal

pub returns-in_err-announce-clause-output : goal.returns-in_err-announce-clause-output
returns-in_err-announce-clause-output c = keeps_engine c.args.self.now c.announce.new.self c.in_err-announce.ensures.err

pub returns-clause-output : goal.returns-clause-output
returns-clause-output c =
    one_changed c.args.self.now _ c.args.id (λ s. session_announced s c.args.new) c.moment.ensures.settled
    (c.wake.ensures.engine ∙ c.in_ok-announce.ensures.ok) c.wake.ensures.own c.wake.ensures.others
