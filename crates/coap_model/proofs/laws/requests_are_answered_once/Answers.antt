use Rattle.coap_model.proofs.world.ResponseLaws.{answered_once, delayed_queues_none, other_queues_none, prompt_responds}
use Rattle.coap_model.proofs.laws.requests_are_answered_once.Goals as goal

pub returns : goal.returns
returns c = record {
  once = answered_once;
  responds = prompt_responds;
  delayed = delayed_queues_none;
  other = other_queues_none;
}
