use Rattle.std.proofs.Common.{◌≡◌, ◌≤◌, length}
use Rattle.coap_wire.specs.Prelude.{without_leading_zeros, uint_of}
use Rattle.coap_wire.proofs.uint.significant_bytes.Given as goal

abbrev pub invariant-loop-first : goal.invariant-loop-first
invariant-loop-first l =
    record {
      fewest : without_leading_zeros l.rest ≡ without_leading_zeros l.bytes;
      value : uint_of l.rest ≡ uint_of l.bytes;
      few : length l.rest ≤ length l.bytes;
    }

abbrev pub decreases-loop-first : goal.decreases-loop-first
decreases-loop-first l = length l.rest
