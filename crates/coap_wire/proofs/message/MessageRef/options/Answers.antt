use Rattle.coap_wire.proofs.BodyLaws.{options_in_order}
use Rattle.coap_wire.proofs.message.MessageRef.options.Goals as goal

pub returns-clause-ordered : goal.returns-clause-ordered
returns-clause-ordered c = rw (← c.self.view_is) (options_in_order 0 c.self.inside.body.now)
