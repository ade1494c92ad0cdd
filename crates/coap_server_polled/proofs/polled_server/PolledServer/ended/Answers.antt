use Rattle.std.proofs.Common.{◌∙◌}
use Rattle.coap_server_engine.specs.Prelude.{session_ended}
use Rattle.coap_server_polled.proofs.ReportLemmas.{keeps_engine, one_changed}
use Rattle.coap_server_polled.proofs.polled_server.PolledServer.ended.Goals as goal

pub returns-in_err-ended-clause-output : goal.returns-in_err-ended-clause-output
returns-in_err-ended-clause-output c = keeps_engine c.args.self.now c.ended.new.self c.in_err-ended.ensures.err

pub returns-clause-output : goal.returns-clause-output
returns-clause-output c =
    one_changed c.args.self.now _ c.args.id session_ended c.ended.ensures.settled
    (c.wake.ensures.engine ∙ c.in_ok-ended.ensures.ok) c.wake.ensures.own c.wake.ensures.others
