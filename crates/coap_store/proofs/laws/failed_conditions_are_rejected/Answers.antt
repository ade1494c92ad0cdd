use Rattle.coap_store.proofs.ConditionLaws.{condition_rejected}
use Rattle.coap_store.proofs.laws.failed_conditions_are_rejected.Goals as goal

pub returns-clause-rejected : goal.returns-clause-rejected
returns-clause-rejected c = condition_rejected
