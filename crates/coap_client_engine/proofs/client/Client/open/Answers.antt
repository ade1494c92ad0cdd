use Rattle.std.proofs.Common.{arith}
use Rattle.coap_client_engine.proofs.ClientShown.{opened_shown}
use Rattle.coap_client_engine.proofs.client.Client.open.Goals as goal

pub returns-clause-shows : goal.returns-clause-shows
returns-clause-shows c = opened_shown _ c.args.limits c.args.tokens_from (grind arith)
