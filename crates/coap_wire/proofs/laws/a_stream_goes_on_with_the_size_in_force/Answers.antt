use Rattle.coap_wire.proofs.SizesLaws.{left_unfinished, went_on}
use Rattle.coap_wire.proofs.laws.a_stream_goes_on_with_the_size_in_force.Goals as goal

pub returns-clause-left : goal.returns-clause-left
returns-clause-left c = left_unfinished

pub returns-clause-more : goal.returns-clause-more
returns-clause-more c = went_on
