use Rattle.std.proofs.Common.{ap, arith, ◌∙◌}
use Rattle.coap_serve.proofs.listener.ConfigLemmas.{keeps_room, swept_config}
use Rattle.coap_serve.proofs.listener.RoundLemmas.{made_before, unswept_made}
use Rattle.coap_serve.proofs.door.service.Service.end_silent.Goals as goal

pub returns-in_default-clause-swept : goal.returns-in_default-clause-swept
returns-in_default-clause-swept g c = rw c.in_default.is (unswept_made _ _)

pub returns-then-second-last-clause-swept : goal.returns-then-second-last-clause-swept
returns-then-second-last-clause-swept g c = made_before _ _ _ c.if-second-last.true

pub invariant_of-self-2-clause-room : goal.invariant_of-self-2-clause-room
invariant_of-self-2-clause-room g c =
    let v = c.args.self.now in
    keeps_room (ap (λ u. u.config) c.sweep.ensures.has.server
    ∙ swept_config _ _ v.server v.peers.entries) (omega arith) v.room
