use Rattle.std.proofs.Common.{Some, ap}
use Rattle.directory_registry.specs.Prelude.{registry_of}
use Rattle.directory_registry.proofs.ChangeLemmas.{found_view}
use Rattle.directory_registry.proofs.registry.Registry.attributes.Goals as goal

pub returns-in_default-clause-all : goal.returns-in_default-clause-all
unfolding registry_of
returns-in_default-clause-all c =
    rw (← c.self.view_is, found_view _ _ _ c.args.number _ c.self.invariant.indexed, ← c.in_default.ensures.value)

pub returns-clause-all : goal.returns-clause-all
unfolding registry_of
returns-clause-all c =
    rw (← c.self.view_is, found_view _ _ _ c.args.number _ c.self.invariant.indexed, ← c.in-Some.ensures.value)
    (ap Some c.attributes.ensures.all)
