use Rattle.std.proofs.Common.{rules}
use Rattle.coap_server_engine.specs.Prelude.{session_released}
use Rattle.coap_server_session.proofs.values.ConcernLemmas.{released_adds}
use Rattle.coap_server_engine.proofs.values.ConcernedLemmas.{called_if_ok}
use Rattle.coap_server_engine.proofs.world.ShowLaws.{release_shows}
use Rattle.coap_server_engine.proofs.server.Server.release.Goals as goal

pub invariant_of-self : goal.invariant_of-self
invariant_of-self c =
    let e = c.release_at.ensures in
    assumption (
      called_if_ok _ _ session_released released_adds
          c.self.view_is c.self.invariant c.in-Some.ensures.some e.ok e.err,
      e,
    )

pub returns : goal.returns
returns c =
    let e = c.release_at.ensures in
    let ok = (called_if_ok _ _ session_released released_adds
    c.self.view_is c.self.invariant c.in-Some.ensures.some e.ok e.err).value in
    search (rules, ok, release_shows _ _ _ _ (search rules) ok)
