use Rattle.example_actuator.proofs.PositionLemmas.{stays}
use Rattle.example_actuator.proofs.valve.ValveApplication.next_response.Goals as goal

pub returns-clause-offered : goal.returns-clause-offered
returns-clause-offered c = stays _
