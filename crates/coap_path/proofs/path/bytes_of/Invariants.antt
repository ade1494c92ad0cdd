use Rattle.std.proofs.Common.{◌≡◌, ◌++◌, drop}
use Rattle.coap_path.specs.Prelude.{segment_list, written}
use Rattle.coap_path.proofs.path.bytes_of.Given as goal

-- The remaining segments follow the bytes written so far.
abbrev pub invariant-loop-segment : goal.invariant-loop-segment
invariant-loop-segment l =
    l.bytes.items ++ written (segment_list (drop l.segment-index l.segments)) ≡ written (segment_list l.segments)
