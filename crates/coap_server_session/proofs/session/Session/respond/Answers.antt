use Rattle.std.proofs.Common.{refl}
use Rattle.coap_server_session.proofs.values.SessionLemmas.{given_up, sizes_responded}
use Rattle.coap_server_session.proofs.session.Session.respond.Goals as goal

pub invariant_of-self-2 : goal.invariant_of-self-2
invariant_of-self-2 c =
    let e = c.in_ok-reply.ensures in
    given_up c.self.inside.observers c.self.invariant
    (sizes_responded c.self.inside.link c.respond.new.self _ e.answer e.after) c.self.invariant.framer refl refl
    c.discard_if_closed.ensures.framer c.discard_if_closed.ensures.observers
