use Rattle.coap_server_engine.specs.Prelude.{session_ended}
use Rattle.coap_server_engine.proofs.values.ServerLemmas.{settled_call, one_of_all}
use Rattle.coap_server_engine.proofs.server.sessions.end_at.Goals as goal

pub settle-requires : goal.settle-requires
settle-requires c =
    c.end.ensures.marked _ (one_of_all _ _ _ _ c.requires.marked c.index_mut-session.ensures.value)

pub returns : goal.returns
returns c = assumption (settled_call session_ended c.settle.new.self c.requires.marked
    c.index_mut-session.ensures.value c.end.ensures.after c.settle.ensures.after c.settle.ensures.marked)
