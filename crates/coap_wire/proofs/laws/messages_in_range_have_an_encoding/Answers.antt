use Rattle.coap_wire.proofs.SpellingLaws.{spelling_spells, has_spelling}
use Rattle.coap_wire.proofs.laws.messages_in_range_have_an_encoding.Goals as goal

pub returns-clause-has : goal.returns-clause-has
returns-clause-has c = spelling_spells

pub returns-clause-no_other : goal.returns-clause-no_other
returns-clause-no_other c = λ m s spelled. has_spelling s m spelled
