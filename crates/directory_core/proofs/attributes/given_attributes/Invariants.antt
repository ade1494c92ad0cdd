use Rattle.std.proofs.Common.{◌≡◌, ◌≤◌, ◌++◌, length}
use Rattle.directory_core.specs.Prelude.{given, attributes_of}
use Rattle.directory_core.proofs.attributes.given_attributes.Given as goal

-- The attributes so far, and those that are left, are all.
abbrev pub invariant-loop-option : goal.invariant-loop-option
invariant-loop-option l = record {
  goes : (goal.iterator-loop-option).can_next l.option-iterator;
  ends : (goal.iterator-loop-option).is_finite l.option-iterator;
  few : length l.list.items ≤ 64;
  so_far : attributes_of l.list.items ++ given l.option-iterator ≡ given l.request.options;
}
