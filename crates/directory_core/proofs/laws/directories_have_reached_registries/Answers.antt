use Rattle.directory_core.proofs.ReachedLemmas.{reached_registry}
use Rattle.directory_core.proofs.laws.directories_have_reached_registries.Goals as goal

pub returns : goal.returns
returns c = reached_registry
