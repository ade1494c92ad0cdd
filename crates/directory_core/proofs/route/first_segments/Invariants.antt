use Rattle.std.proofs.Common.{◌≡◌, ◌≤◌, ◌++◌, take, length}
use Rattle.directory_core.specs.Prelude.{segments, segment_list}
use Rattle.directory_core.proofs.route.first_segments.Given as goal

-- The segments so far, and those that are left, are all.
abbrev pub invariant-loop-option : goal.invariant-loop-option
invariant-loop-option l = record {
  goes : (goal.iterator-loop-option).can_next l.option-iterator;
  ends : (goal.iterator-loop-option).is_finite l.option-iterator;
  few : length l.first.items ≤ 3;
  so_far : take 3 (segment_list l.first.items ++ segments l.option-iterator) ≡ take 3 (segments l.request.options);
}
