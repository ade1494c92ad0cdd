use Rattle.std.proofs.Common.{refl}
use Rattle.example_actuator.proofs.PositionLemmas.{moves_on}
use Rattle.example_actuator.proofs.valve.ValveApplication.gone.Goals as goal

pub returns : goal.returns
returns c = moves_on _ _ _ refl
