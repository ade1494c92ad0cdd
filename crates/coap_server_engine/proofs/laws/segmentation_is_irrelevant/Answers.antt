use Rattle.coap_model.proofs.world.CutLaws.{cut_steps, cut_worlds}
use Rattle.coap_model.proofs.world.EndOfInputLaws.{received_world, same_received, received_alike, quiet_end}
use Rattle.coap_server_engine.proofs.world.ShowLaws.{same_servers}
use Rattle.coap_server_engine.proofs.laws.segmentation_is_irrelevant.Goals as goal

pub returns : goal.returns
returns c = assumption (cut_steps, cut_worlds, received_world, received_alike, quiet_end, same_received, same_servers)
