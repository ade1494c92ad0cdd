use Rattle.coap_server_engine.specs.Prelude.{server_value}
use Rattle.coap_server_engine.proofs.values.WorkLemmas.{moment_keeps}
use Rattle.coap_server_engine.proofs.server.Server.concerned_by_time.Goals as goal

pub returns : goal.returns
returns c later =
    rw (← c.self.view_is)
    (moment_keeps _ c.self.inside.sets.time.words later c.count.ensures.store
    c.self.invariant.server.settled (c.self.invariant.covered.time later))
