use Rattle.std.proofs.Common.{ap}
use Rattle.directory_registry.specs.Prelude.{registry_of}
use Rattle.directory_registry.proofs.RegistryLemmas.{views}
use Rattle.directory_registry.proofs.registry.Registry.new.Goals as goal

pub returns : goal.returns
unfolding registry_of
returns c = ap (λ es. record { entries = views es; next = 1; limit = c.args.limit }) c.new.ensures.empty
