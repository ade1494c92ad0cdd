use Rattle.coap_server_engine.proofs.world.HandledLaws.{handled_agrees}
use Rattle.coap_server_engine.proofs.laws.each_message_taken_is_handled_once.Goals as goal

pub returns-clause-messages : goal.returns-clause-messages
returns-clause-messages c k events id s accepted there = (handled_agrees k events id s accepted there).handled

pub returns-clause-fault : goal.returns-clause-fault
returns-clause-fault c k events id s fault accepted there has =
    ((handled_agrees k events id s accepted there).stopped fault has).0
