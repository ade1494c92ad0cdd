use Rattle.coap_wire.proofs.StreamLaws.{splits_split}
use Rattle.coap_wire.proofs.laws.stream_is_split_once.Goals as goal

pub returns-clause-no_other : goal.returns-clause-no_other
returns-clause-no_other c = splits_split
