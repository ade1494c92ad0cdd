use Rattle.coap_conn.proofs.OutstandingLaws.{requested_no_more, call_few, requested_given_up}
use Rattle.coap_conn.proofs.laws.outstanding_is_limited.Goals as goal

pub returns-clause-message : goal.returns-clause-message
returns-clause-message c = requested_no_more

pub returns-clause-call : goal.returns-clause-call
returns-clause-call c = call_few

pub returns-clause-given_up : goal.returns-clause-given_up
returns-clause-given_up c = requested_given_up
