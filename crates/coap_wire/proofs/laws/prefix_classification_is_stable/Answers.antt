use Rattle.coap_wire.proofs.StreamSteps.{fault_bytes_more}
use Rattle.coap_wire.proofs.laws.prefix_classification_is_stable.Goals as goal

pub returns-clause-fault_bytes : goal.returns-clause-fault_bytes
returns-clause-fault_bytes c = fault_bytes_more
