use Rattle.std.proofs.Common.{◌≡◌, ◌≤◌, ◌++◌, length}
use Rattle.coap_path.specs.Prelude.{segment_list}
use Rattle.coap_path.proofs.path_start.first_segments.Given as goal

-- The path is the segments so far, followed by the remaining ones.
abbrev pub invariant-loop-segment : goal.invariant-loop-segment
invariant-loop-segment l = record {
  goes : (goal.iterator-loop-segment).can_next l.segment-iterator;
  ends : (goal.iterator-loop-segment).is_finite l.segment-iterator;
  few : length l.first.items ≤ 16;
  so_far : segment_list l.first.items ++ l.segment-iterator ≡ l.fn.path;
}
