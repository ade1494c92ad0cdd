use Rattle.coap_model.proofs.world.ReachedLaws.{accepted_is}
use Rattle.coap_model.proofs.laws.last_announced_size_applies.Goals as goal

pub returns : goal.returns
returns c k events id s accepted there = (accepted_is k events accepted).sizes id s there
