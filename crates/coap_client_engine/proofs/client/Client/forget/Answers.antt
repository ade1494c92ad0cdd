use Rattle.std.proofs.Common.{arith}
use Rattle.coap_client_engine.specs.Prelude.{Forgot}
use Rattle.coap_client_engine.proofs.ClientShown.{ok_shown}
use Rattle.coap_client_engine.proofs.client.Client.forget.Goals as goal

pub returns-clause-shows : goal.returns-clause-shows
returns-clause-shows c =
    ok_shown c.forget.result c.args.self.now _ (Forgot c.args.token.now.items) (grind arith) (grind arith)
