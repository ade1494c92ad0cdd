use Rattle.coap_client_engine.proofs.HandledLaws.{agrees}
use Rattle.coap_client_engine.proofs.laws.messages_are_those_spelled.Goals as goal

pub returns-clause-messages : goal.returns-clause-messages
returns-clause-messages c limits tokens calls ranges accepted = (agrees limits tokens calls accepted).handled

pub returns-clause-fault : goal.returns-clause-fault
returns-clause-fault c limits tokens calls fault ranges accepted = (agrees limits tokens calls accepted).stopped fault
