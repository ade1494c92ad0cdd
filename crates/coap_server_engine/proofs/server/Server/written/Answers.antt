use Rattle.std.proofs.Common.{arith}
use Rattle.coap_server_session.proofs.values.ConcernLemmas.{written_adds}
use Rattle.coap_server_engine.proofs.values.ServerLemmas.{enough_waits, unmarked_at}
use Rattle.coap_server_engine.proofs.values.ConcernedLemmas.{called}
use Rattle.coap_server_engine.proofs.world.ShowLaws.{written_shows}
use Rattle.coap_server_engine.proofs.server.Server.written.Goals as goal

pub invariant_of-self : goal.invariant_of-self
invariant_of-self c =
    let e = c.written_at.ensures in
    assumption (called _ (written_adds c.args.count) c.self.invariant c.in-Some.ensures.some e.after, e)

pub returns-clause-ok : goal.returns-clause-ok
returns-clause-ok c =
    rw (← c.self.view_is) (called _ (written_adds c.args.count) c.self.invariant c.in-Some.ensures.some
    c.written_at.ensures.after).value

pub returns-clause-shows : goal.returns-clause-shows
returns-clause-shows c = written_shows c.args.self.now _ c.args.id c.args.count (rw (
  ← c.self.view_is,
  c.in-Some.ensures.some.found,
  unmarked_at c.self.inside.sessions.entries c.in-Some.at _
      c.index.ensures,
) (enough_waits _ _ c.args.count (omega (arith, c.waiting.ensures)))) (returns-clause-ok c)
