use Rattle.coap_wire.proofs.StreamSteps.{sized_rest}
use Rattle.coap_wire.proofs.laws.stream_is_read_in_order.Goals as goal

pub returns-clause-rest : goal.returns-clause-rest
returns-clause-rest c = λ sizes s rest none is. rw is at (sized_rest sizes s none).0
