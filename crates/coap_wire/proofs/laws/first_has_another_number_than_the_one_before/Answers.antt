use Rattle.coap_wire.proofs.RecognitionLaws.{first_alone, first_after}
use Rattle.coap_wire.proofs.laws.first_has_another_number_than_the_one_before.Goals as goal

pub returns-clause-alone : goal.returns-clause-alone
returns-clause-alone c = first_alone

pub returns-clause-later : goal.returns-clause-later
returns-clause-later c = first_after
