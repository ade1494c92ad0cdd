use Rattle.std.proofs.Common.{arith}
use Rattle.coap_client_engine.specs.Prelude.{extras_value, Sent}
use Rattle.coap_client_engine.proofs.ClientShown.{call_shown}
use Rattle.coap_client_engine.proofs.client.Client.send_or_refuse.Goals as goal

pub returns-clause-shows : goal.returns-clause-shows
returns-clause-shows c =
    call_shown c.args.self.now _ (Sent c.args.method c.args.target.now (extras_value c.args.extras.now)) (grind arith)
    (grind arith)
