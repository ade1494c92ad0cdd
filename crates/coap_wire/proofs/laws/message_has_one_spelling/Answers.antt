use Rattle.coap_wire.proofs.SpellingLaws.{one_spelling}
use Rattle.coap_wire.proofs.laws.message_has_one_spelling.Goals as goal

pub returns : goal.returns
returns c = λ m s t p q. one_spelling s t m p q
