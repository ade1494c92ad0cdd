use Rattle.std.proofs.Common.{◌≡◌, drop}
use Rattle.directory_registry.specs.Prelude.{is_selected_link, criteria_of, registration_of}
use Rattle.directory_registry.proofs.matching.selects_link.Given as goal

-- The criteria so far are met.
abbrev pub invariant-loop-criterion : goal.invariant-loop-criterion
invariant-loop-criterion l =
    is_selected_link (criteria_of (drop l.criterion-index l.criteria))
    (registration_of l.registration) l.link ≡ is_selected_link (criteria_of l.criteria)
    (registration_of l.registration) l.link
