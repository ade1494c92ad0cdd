use Rattle.coap_server_engine.proofs.world.ShowLaws.{side_there, no_change_is_lost}
use Rattle.coap_server_engine.proofs.laws.no_change_is_lost.Goals as goal

pub returns : goal.returns
returns c v events id s shows there =
    no_change_is_lost v events id _ s shows (side_there v events id s shows there) there
