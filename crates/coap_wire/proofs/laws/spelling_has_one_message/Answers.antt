use Rattle.coap_wire.proofs.ReadingLaws.{one_message}
use Rattle.coap_wire.proofs.laws.spelling_has_one_message.Goals as goal

pub returns : goal.returns
returns c = one_message
