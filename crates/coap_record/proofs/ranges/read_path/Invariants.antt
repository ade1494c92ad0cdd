-- If the segments left are bytes, all are.
use Rattle.std.proofs.Common.{All}
use Rattle.coap_record.specs.Prelude.{AreBytes}
use Rattle.coap_record.proofs.ranges.read_path.Given as goal

abbrev pub invariant-loop-segment : goal.invariant-loop-segment
invariant-loop-segment l = All AreBytes l.segment-iterator → All AreBytes l.path
