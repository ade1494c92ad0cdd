use Rattle.std.proofs.Common.{◌≡◌, ◌++◌, ◌+◌, ◌≤◌, length}
use Rattle.coap_path.specs.Paths.{written_length}
use Rattle.c_api.specs.PathTexts.{slashed}
use Rattle.c_api.proofs.paths.slashed.Given as goal

-- The remaining segments follow the text so far, and have room after it.
abbrev pub invariant-loop-segment : goal.invariant-loop-segment
invariant-loop-segment l = record {
  goes : (goal.iterator-loop-segment).can_next l.segment-iterator;
  ends : (goal.iterator-loop-segment).is_finite l.segment-iterator;
  left : l.text.items ++ slashed l.segment-iterator ≡ slashed l.path;
  room : length l.text.items + written_length l.segment-iterator ≤ 255;
}
