use Rattle.std.proofs.Common.{◌∙◌}
use Rattle.coap_server_engine.specs.Prelude.{message_of, session_given_by}
use Rattle.coap_server_polled.proofs.ReportLemmas.{keeps_engine, one_changed}
use Rattle.coap_server_polled.proofs.polled_server.PolledServer.respond.Goals as goal

pub returns-in_err-reply-clause-output : goal.returns-in_err-reply-clause-output
returns-in_err-reply-clause-output c = keeps_engine c.args.self.now c.respond.new.self c.in_err-reply.ensures.err

pub returns-clause-output : goal.returns-clause-output
returns-clause-output c =
    one_changed c.args.self.now _ c.args.id (session_given_by (message_of c.args.response.now))
    c.respond.ensures.settled (c.wake.ensures.engine ∙ c.in_ok-reply.ensures.ok) c.wake.ensures.own
    c.wake.ensures.others
