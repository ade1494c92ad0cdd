use Rattle.coap_server_engine.proofs.values.ServerLemmas.{unmarked_at}
use Rattle.coap_server_engine.proofs.server.Server.status.Goals as goal

pub returns-in_err-at : goal.returns-in_err-at
returns-in_err-at c = rw (← c.self.view_is, c.from_residual.ensures, c.in_err-at.ensures.none)

pub returns : goal.returns
returns c =
    rw (
      ← c.self.view_is,
      c.in_ok-at.ensures.some.found,
      unmarked_at _ _ _ c.index-session.ensures,
      c.phase.ensures,
      c.kept.ensures,
      c.waiting.ensures,
      c.pending.ensures,
      c.observers.ensures,
      c.peer_max.ensures,
      c.finished.ensures,
    )
