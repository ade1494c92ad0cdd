use Rattle.coap_model.proofs.world.ResponseLaws.{registration_added, none_added, regular_response}
use Rattle.coap_model.proofs.laws.registrations_add_observers.Goals as goal

pub returns : goal.returns
returns c = record {
  added = registration_added;
  none = none_added;
  regular = regular_response;
}
