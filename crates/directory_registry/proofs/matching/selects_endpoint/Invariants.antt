use Rattle.std.proofs.Common.{◌≡◌, drop}
use Rattle.directory_registry.specs.Prelude.{is_selected_endpoint, criteria_of, registration_of}
use Rattle.directory_registry.proofs.matching.selects_endpoint.Given as goal

-- The criteria so far are met.
abbrev pub invariant-loop-criterion : goal.invariant-loop-criterion
invariant-loop-criterion l =
    is_selected_endpoint (criteria_of (drop l.criterion-index l.criteria))
    (registration_of l.registration) ≡ is_selected_endpoint (criteria_of l.criteria) (registration_of l.registration)
