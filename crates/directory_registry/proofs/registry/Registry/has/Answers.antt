use Rattle.directory_registry.specs.Prelude.{registry_of}
use Rattle.directory_registry.proofs.ChangeLemmas.{location_viewed}
use Rattle.directory_registry.proofs.registry.Registry.has.Goals as goal

pub returns : goal.returns
unfolding registry_of
returns c = rw (← c.self.view_is, location_viewed _ _ _ c.args.number _ c.self.invariant.indexed) c.contains_key.ensures
