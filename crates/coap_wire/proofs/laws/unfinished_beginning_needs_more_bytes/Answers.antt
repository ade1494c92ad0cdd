use Rattle.coap_wire.proofs.StreamSteps.{unfinished_empty, unfinished_below, unfinished_larger, whole_at_last}
use Rattle.coap_wire.proofs.StreamSteps.{fault_at_last}
use Rattle.coap_wire.proofs.laws.unfinished_beginning_needs_more_bytes.Goals as goal

pub returns-clause-empty : goal.returns-clause-empty
returns-clause-empty c = unfinished_empty

pub returns-clause-shorter : goal.returns-clause-shorter
returns-clause-shorter c = unfinished_below

pub returns-clause-larger : goal.returns-clause-larger
returns-clause-larger c = unfinished_larger

pub returns-clause-frame : goal.returns-clause-frame
returns-clause-frame c = whole_at_last

pub returns-clause-fault : goal.returns-clause-fault
returns-clause-fault c = fault_at_last
