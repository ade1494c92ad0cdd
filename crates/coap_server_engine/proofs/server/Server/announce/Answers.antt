use Rattle.std.proofs.Common.{rules}
use Rattle.coap_server_engine.specs.Prelude.{session_announced}
use Rattle.coap_server_session.proofs.values.ConcernLemmas.{announced_adds}
use Rattle.coap_server_engine.proofs.values.ConcernedLemmas.{called_if_ok}
use Rattle.coap_server_engine.proofs.world.ShowLaws.{announce_shows}
use Rattle.coap_server_engine.proofs.server.Server.announce.Goals as goal

pub invariant_of-self : goal.invariant_of-self
invariant_of-self c =
    let e = c.announce_at.ensures in
    assumption (
      called_if_ok _ c.announce_at.new.sessions.entries (λ s. session_announced s _)
          (announced_adds c.args.new)
          c.self.view_is c.self.invariant c.in-Some.ensures.some e.ok e.err,
      e,
    )

pub returns : goal.returns
returns c =
    let e = c.announce_at.ensures in
    let ok = (called_if_ok _ c.announce_at.new.sessions.entries (λ s. session_announced s _)
    (announced_adds c.args.new) c.self.view_is c.self.invariant c.in-Some.ensures.some e.ok e.err).value in
    search (rules, ok, announce_shows c.args.self.now _ _ _ c.args.new (search rules) ok)
