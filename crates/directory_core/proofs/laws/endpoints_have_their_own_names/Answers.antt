use Rattle.directory_core.proofs.ReachedLemmas.{reached_named}
use Rattle.directory_core.proofs.laws.endpoints_have_their_own_names.Goals as goal

pub returns : goal.returns
returns c = reached_named
