use Rattle.std.proofs.Common.{◌≡◌, drop}
use Rattle.directory_registry.specs.Prelude.{exact_name, criteria_of}
use Rattle.directory_registry.proofs.label.requested_name.Given as goal

-- No criterion so far asks for one name.
abbrev pub invariant-loop-criterion : goal.invariant-loop-criterion
invariant-loop-criterion l =
    exact_name (criteria_of (drop l.criterion-index l.criteria)) ≡ exact_name (criteria_of l.criteria)
