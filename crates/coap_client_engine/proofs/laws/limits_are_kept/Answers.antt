use Rattle.coap_client_engine.proofs.LimitLaws.{few_kept, few_wait, few_outstanding, client_holds_nothing}
use Rattle.coap_client_engine.proofs.laws.limits_are_kept.Goals as goal

pub returns-clause-kept : goal.returns-clause-kept
returns-clause-kept c = few_kept

pub returns-clause-waiting : goal.returns-clause-waiting
returns-clause-waiting c = few_wait

pub returns-clause-outstanding : goal.returns-clause-outstanding
returns-clause-outstanding c limits tokens calls ranges accepted = few_outstanding limits tokens calls

pub returns-clause-pending : goal.returns-clause-pending
returns-clause-pending c = client_holds_nothing
