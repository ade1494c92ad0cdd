use Rattle.std.proofs.Common.{◌≡◌}
use Rattle.std.specs.List.{list_all}
use Rattle.directory_core.specs.Prelude.{has_allowed_name}
use Rattle.directory_core.proofs.parameters.have_allowed_names.Given as goal

-- The options so far pass the test.
abbrev pub invariant-loop-option : goal.invariant-loop-option
invariant-loop-option l = record {
  goes : (goal.iterator-loop-option).can_next l.option-iterator;
  ends : (goal.iterator-loop-option).is_finite l.option-iterator;
  so_far : list_all has_allowed_name l.option-iterator ≡ list_all has_allowed_name l.request.options;
}
