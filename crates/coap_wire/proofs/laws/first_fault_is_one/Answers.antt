use Rattle.coap_wire.proofs.ReadingLaws.{has_first_fault, one_first_fault, no_fault_of_spelling}
use Rattle.coap_wire.proofs.laws.first_fault_is_one.Goals as goal

pub returns-clause-once : goal.returns-clause-once
returns-clause-once c = one_first_fault

pub returns-clause-none : goal.returns-clause-none
returns-clause-none c = no_fault_of_spelling

pub returns-clause-has : goal.returns-clause-has
returns-clause-has c = has_first_fault
