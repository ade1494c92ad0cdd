use Rattle.std.proofs.Common.{◌≡◌, ◌++◌, ◌==◌, length, map}
use Rattle.coap_client_request.specs.Prelude.{slice_split, percent_decode, byte_lists}
use Rattle.coap_client_request.proofs.target.decoded_parts.Given as goal

-- The parts so far, followed by those of the remaining bytes, are all parts.
abbrev pub invariant-loop-part : goal.invariant-loop-part
invariant-loop-part l =
    byte_lists l.parts.items ++ map percent_decode (slice_split (λ b. b == l.separator) l.left)
    ≡ map percent_decode (slice_split (λ b. b == l.separator) l.bytes)

abbrev pub decreases-loop-part : goal.decreases-loop-part
decreases-loop-part l = length l.left
