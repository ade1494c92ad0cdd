use Rattle.std.proofs.Common.{arith}
use Rattle.coap_client_engine.specs.Prelude.{Wrote}
use Rattle.coap_client_engine.proofs.ClientShown.{call_shown}
use Rattle.coap_client_engine.proofs.client.Client.written.Goals as goal

pub returns-clause-shows : goal.returns-clause-shows
returns-clause-shows c = call_shown c.args.self.now _ (Wrote c.args.count) c.requires (grind arith)
