use Rattle.std.proofs.Common.{◌≡◌}
use Rattle.coap_server_session.specs.Prelude.{segments_hash, path_hash}
use Rattle.coap_server_session.proofs.path_hash.hash_of_request.Given as goal

-- Hashing the remaining segments results in the hash of the path.
abbrev pub invariant-loop-segment : goal.invariant-loop-segment
invariant-loop-segment l = record {
  goes : (goal.iterator-loop-segment).can_next l.segment-iterator;
  ends : (goal.iterator-loop-segment).is_finite l.segment-iterator;
  left : segments_hash l.hash l.segment-iterator ≡ path_hash l.fn.path;
}
