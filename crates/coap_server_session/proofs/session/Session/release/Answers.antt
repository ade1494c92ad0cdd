use Rattle.std.proofs.Common.{refl, ap, ◌∙◌}
use Rattle.coap_server_session.specs.Prelude.{sizes_of, is_open}
use Rattle.coap_server_session.proofs.values.SessionLemmas.{given_up}
use Rattle.coap_server_session.proofs.session.Session.release.Goals as goal
use Rattle.coap_conn.proofs.LinkLemmas.{stays_so}

pub invariant_of-self-2 : goal.invariant_of-self-2
invariant_of-self-2 c =
    let l = c.self.inside.link in
    given_up c.self.inside.observers c.self.invariant
    (ap sizes_of c.in_ok-release.ensures.after ∙ stays_so sizes_of (is_open l.phase) l _ refl)
    c.self.invariant.framer refl refl c.discard_if_closed.ensures.framer c.discard_if_closed.ensures.observers
