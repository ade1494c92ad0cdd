use Rattle.coap_model.proofs.world.FateTimes.{expired_late, deadlines_later}
use Rattle.coap_model.proofs.laws.application_deadlines_are_kept.Goals as goal

pub returns : goal.returns
returns c = record {
  expired = expired_late;
  later = deadlines_later;
}
