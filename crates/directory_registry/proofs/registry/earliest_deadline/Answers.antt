use Rattle.std.proofs.Common.{ap, arith}
use Rattle.directory_registry.proofs.RegistryLemmas.{all_after}
use Rattle.directory_registry.proofs.registry.earliest_deadline.Goals as goal

pub returns : goal.returns
returns c = c.loop-stored.invariant.so_far c.loop-stored.earliest (omega arith)
    (ap (all_after c.loop-stored.earliest) c.in-None.ensures.steps.0)
