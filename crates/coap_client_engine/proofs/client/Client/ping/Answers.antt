use Rattle.std.proofs.Common.{arith}
use Rattle.coap_client_engine.specs.Prelude.{Pinged}
use Rattle.coap_client_engine.proofs.ClientShown.{ok_shown}
use Rattle.coap_client_engine.proofs.client.Client.ping.Goals as goal

pub returns-clause-shows : goal.returns-clause-shows
returns-clause-shows c =
    ok_shown c.ping.result c.args.self.now _ (Pinged c.args.custody) (grind arith) (grind arith)
