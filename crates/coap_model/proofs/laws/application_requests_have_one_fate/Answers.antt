use Rattle.coap_model.proofs.world.FateLaws.{have_own}
use Rattle.coap_model.proofs.world.FateKept.{off_over, requests_accounted, requests_handed, requests_answered}
use Rattle.coap_model.proofs.world.FateGiven.{given_are_answers}
use Rattle.coap_model.proofs.world.FateGone.{gone_or_dropped}
use Rattle.coap_model.proofs.world.FateHanded.{event_hands}
use Rattle.coap_model.proofs.laws.application_requests_have_one_fate.Goals as goal

pub returns : goal.returns
returns c = record {
  requests = λ k events id s there. (requests_accounted k events id s there).requests;
  pending = λ k events id s there. (requests_accounted k events id s there).pending;
  unanswered = requests_handed;
  given_up = λ k events id s there over.
      (requests_accounted k events id s there).quiet (off_over s.history.phase over);
  answered = requests_answered;
  own = λ k events id s there. have_own _ (requests_accounted k events id s there).apart;
  given = given_are_answers;
  gone = gone_or_dropped;
  handed = λ k events e id s t accepted own there. event_hands k events id s accepted there e own t;
}
