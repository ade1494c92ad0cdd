use Rattle.coap_server_engine.proofs.world.HandledLaws.{lent_is_handed}
use Rattle.coap_server_engine.proofs.laws.lent_requests_are_handed_over.Goals as goal

pub returns : goal.returns
returns k c events id bytes s t accepted own there then goes_on =
    lent_is_handed c events id bytes s t accepted own there then goes_on
