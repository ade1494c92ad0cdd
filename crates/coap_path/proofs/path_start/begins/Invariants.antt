use Rattle.std.proofs.Common.{◌≡◌, ◌≤◌, drop, length}
use Rattle.coap_path.specs.Prelude.{begins_with, segment_list}
use Rattle.coap_path.proofs.path_start.begins.Given as goal

-- The segments so far are equal.
abbrev pub invariant-loop-segment : goal.invariant-loop-segment
invariant-loop-segment l = record {
  goes : (goal.iterator-loop-segment).can_next l.segment-iterator;
  ends : (goal.iterator-loop-segment).is_finite l.segment-iterator;
  within : l.index ≤ length l.path;
  so_far : begins_with l.segment-iterator (segment_list (drop l.index l.path))
      ≡ begins_with l.prefix (segment_list l.path);
}
