use Rattle.coap_server_engine.specs.Prelude.{session_ended}
use Rattle.coap_server_session.proofs.values.ConcernLemmas.{ended_adds}
use Rattle.coap_server_engine.proofs.values.ServerLemmas.{is_there_at}
use Rattle.coap_server_engine.proofs.values.ConcernedLemmas.{called}
use Rattle.coap_server_engine.proofs.world.ShowLaws.{ended_shows}
use Rattle.coap_server_engine.proofs.server.Server.ended.Goals as goal

pub invariant_of-self : goal.invariant_of-self
invariant_of-self c =
    let e = c.end_at.ensures in
    assumption (called session_ended ended_adds c.self.invariant c.in-Some.ensures.some e.after, e)

pub returns : goal.returns
returns c =
    let there = is_there_at _ _ _ c.in-Some.ensures.some in
    let ok = (called session_ended ended_adds c.self.invariant c.in-Some.ensures.some c.end_at.ensures.after).value in
    rw (← c.self.view_is) (assumption (there, ok, ended_shows _ _ _ there ok))
