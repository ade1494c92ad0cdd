use Rattle.std.proofs.Common.{◌≡◌, ◌≤◌, ◌+◌, ◌++◌, length}
use Rattle.coap_path.specs.Prelude.{is_dots, list_any, written}
use Rattle.coap_path.proofs.path.write_path.Given as goal

-- The segments before the remaining ones are written, and a path can begin with them.
abbrev pub invariant-loop-segment : goal.invariant-loop-segment
invariant-loop-segment l = record {
  goes : (goal.iterator-loop-segment).can_next l.segment-iterator;
  ends : (goal.iterator-loop-segment).is_finite l.segment-iterator;
  are : l.bytes.items ++ written l.segment-iterator ≡ written l.fn.segments;
  counted : l.count + length l.segment-iterator ≡ length l.fn.segments;
  dots : list_any is_dots l.segment-iterator ≡ list_any is_dots l.fn.segments;
  few : l.count ≤ 16;
  short : length l.bytes.items ≤ 255;
}
