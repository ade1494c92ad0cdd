use Rattle.std.proofs.Common.{◌≡◌, ◌≤◌, ◌+◌, length}
use Rattle.coap_path.proofs.path_start.segment_count.Given as goal

-- The count and the remaining segments add up to those of the prefix.
abbrev pub invariant-loop-segment : goal.invariant-loop-segment
invariant-loop-segment l = record {
  goes : (goal.iterator-loop-segment).can_next l._segment-iterator;
  ends : (goal.iterator-loop-segment).is_finite l._segment-iterator;
  few : length l.prefix ≤ 16;
  so_far : l.count + length l._segment-iterator ≡ length l.prefix;
}
