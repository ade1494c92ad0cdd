use Rattle.std.proofs.Common.{◌≡◌, []}
use Rattle.directory_core.specs.Prelude.{criteria_from, criteria_of}
use Rattle.directory_core.proofs.query.criteria_of_request.Given as goal

-- The criteria so far, and those of the options that are left, are all.
abbrev pub invariant-loop-option : goal.invariant-loop-option
invariant-loop-option l = record {
  goes : (goal.iterator-loop-option).can_next l.option-iterator;
  ends : (goal.iterator-loop-option).is_finite l.option-iterator;
  so_far : criteria_from (criteria_of l.criteria.items) l.option-iterator ≡ criteria_from [] l.request.options;
}
