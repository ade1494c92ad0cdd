use Rattle.std.proofs.Common.{sym, ap, ◌∙◌}
use Rattle.coap_server_session.specs.Prelude.{is_open}
use Rattle.coap_server_session.proofs.values.SessionLemmas.{announced_session}
use Rattle.coap_server_session.proofs.session.Session.announce.Goals as goal

pub invariant_of-self-2 : goal.invariant_of-self-2
invariant_of-self-2 c =
    announced_session c.self.invariant (ap is_open (sym c.phase.ensures ∙ c.in-Open.is))
    (sym c.if-not-takes_announcement.ensures) c.in-Ok.ensures.answer c.in-Ok.ensures.after c.announce.ensures.after
