use Rattle.coap_serve.proofs.listener.RoundLemmas.{dropped_here, silent_reason}
use Rattle.coap_serve.proofs.door.sweep.drop_at.Goals as goal

pub drop_at-wire-requires-clause-reason : goal.drop_at-wire-requires-clause-reason
drop_at-wire-requires-clause-reason g c = silent_reason c.args.server.now c.args.peers.now.entries c.args.at

pub returns-clause-part : goal.returns-clause-part
returns-clause-part g c =
    dropped_here _ _ _ _ _ _ c.requires.there c.drop_at-wire.ensures.peers c.drop_at-wire.ensures.dropped
