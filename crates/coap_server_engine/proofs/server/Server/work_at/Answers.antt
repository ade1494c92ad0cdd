use Rattle.std.proofs.Common.{sym, subst}
use Rattle.coap_server_engine.specs.Prelude.{LiesAt}
use Rattle.coap_server_engine.proofs.values.ServerLemmas.{unmarked_at}
use Rattle.coap_server_engine.proofs.server.Server.work_at.Goals as goal

pub returns : goal.returns
returns c =
    let lies = subst (λ v. LiesAt c.args.index.id c.args.index.at v.sessions) (sym c.self.view_is) c.requires in
    rw (
      ← c.self.view_is,
      lies.found,
      unmarked_at _ _ _ c.index-session.ensures,
      c.takes.ensures,
      c.is_some.ensures,
      c.stop.ensures,
      c.phase.ensures,
      c.waiting.ensures,
      c.finished.ensures,
      c.due.ensures,
    )
