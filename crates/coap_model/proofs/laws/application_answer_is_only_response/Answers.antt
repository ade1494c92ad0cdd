use Rattle.coap_model.proofs.world.FateKept.{requests_at, only_answers}
use Rattle.coap_model.proofs.laws.application_answer_is_only_response.Goals as goal

pub returns : goal.returns
returns c = record {
  at = requests_at;
  only = only_answers;
}
