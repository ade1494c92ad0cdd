use Rattle.std.proofs.Common.{◌∙◌}
use Rattle.coap_server_engine.specs.Prelude.{session_released}
use Rattle.coap_server_polled.proofs.ReportLemmas.{keeps_engine, one_changed}
use Rattle.coap_server_polled.proofs.polled_server.PolledServer.release.Goals as goal

pub returns-in_err-release-clause-output : goal.returns-in_err-release-clause-output
returns-in_err-release-clause-output c = keeps_engine c.args.self.now c.release.new.self c.in_err-release.ensures.err

pub returns-clause-output : goal.returns-clause-output
returns-clause-output c =
    one_changed c.args.self.now _ c.args.id session_released c.release.ensures.settled
    (c.wake.ensures.engine ∙ c.in_ok-release.ensures.ok) c.wake.ensures.own c.wake.ensures.others
