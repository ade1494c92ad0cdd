use Rattle.std.proofs.Common.{◌∙◌, refl}
use Rattle.coap_server_engine.specs.Prelude.{server_ticked}
use Rattle.coap_server_polled.proofs.ReportLemmas.{keeps_engine, some_changed, time_stays}
use Rattle.coap_server_polled.proofs.polled_server.PolledServer.tick.Goals as goal

pub returns-in_err-tick-clause-output : goal.returns-in_err-tick-clause-output
returns-in_err-tick-clause-output c = keeps_engine c.args.self.now c.tick.new.self c.in_err-tick.ensures.err

pub returns-then-now-before-clause-output : goal.returns-then-now-before-clause-output
returns-then-now-before-clause-output c =
    time_stays c.args.self.now _ c.args.now (c.if-now-before.true ∙ c.moment-before.ensures.moment)
    c.tick.ensures.settled c.in_ok-tick.ensures.ok refl

pub returns-clause-output : goal.returns-clause-output
returns-clause-output c =
    some_changed c.args.self.now _ c.concerned_by_time-affected.result.words
    (server_ticked c.args.self.now.engine c.args.now) c.in_ok-tick.ensures.ok
    (c.concerned_by_time-affected.ensures c.args.now) c.join.ensures.outside
