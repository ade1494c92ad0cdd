use Rattle.std.proofs.Common.{arith}
use Rattle.coap_client_engine.specs.Prelude.{state_in}
use Rattle.coap_client_engine.proofs.TakeLemmas.{answer_token, pong_token}
use Rattle.coap_client_engine.proofs.client.handle_message.Goals as goal

pub returns-in-Answer-clause-event : goal.returns-in-Answer-clause-event
returns-in-Answer-clause-event c =
    let own = answer_token (state_in c.args.link.now) c.args.message.now _ _ c.in-Answer.ensures.verdict in
    grind arith

pub returns-in-Pong-clause-event : goal.returns-in-Pong-clause-event
returns-in-Pong-clause-event c =
    let own = pong_token (state_in c.args.link.now) c.args.message.now _ _ c.in-Pong.ensures.verdict in
    grind arith
