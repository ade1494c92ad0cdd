use Rattle.coap_server_engine.proofs.values.ServerLemmas.{unmarked_at}
use Rattle.coap_server_engine.proofs.server.Server.can_take.Goals as goal

pub returns-in_default : goal.returns-in_default
returns-in_default c = rw (← c.self.view_is, c.in_default.ensures.none)

pub returns : goal.returns
returns c = rw (← c.self.view_is, c.in-Some.ensures.some.found, unmarked_at _ _ _ c.index.ensures) c.takes.ensures
