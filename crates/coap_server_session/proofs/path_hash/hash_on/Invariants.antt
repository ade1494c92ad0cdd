use Rattle.std.proofs.Common.{◌≡◌, drop}
use Rattle.coap_server_session.specs.Prelude.{hash_after}
use Rattle.coap_server_session.proofs.path_hash.hash_on.Given as goal

-- Hashing the remaining bytes results in the hash of all bytes.
abbrev pub invariant-loop-byte : goal.invariant-loop-byte
invariant-loop-byte l = hash_after l.so_far (drop l.byte-index l.bytes) ≡ hash_after l.fn.hash l.bytes
