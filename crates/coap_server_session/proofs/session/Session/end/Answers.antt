use Rattle.std.proofs.Common.{refl, ap, ◌∙◌}
use Rattle.coap_server_session.specs.Prelude.{sizes_of}
use Rattle.coap_conn.proofs.LinkLemmas.{end_sizes}
use Rattle.coap_server_session.proofs.values.SessionLemmas.{given_up}
use Rattle.coap_server_session.proofs.session.Session.end.Goals as goal

pub invariant_of-self : goal.invariant_of-self
invariant_of-self c =
    given_up c.self.inside.observers c.self.invariant (ap sizes_of c.end.ensures.after ∙ end_sizes c.self.inside.link _)
    c.self.invariant.framer refl refl c.discard_if_closed.ensures.framer c.discard_if_closed.ensures.observers
