use Rattle.std.proofs.Common.{◌≡◌, drop}
use Rattle.coap_path.specs.Prelude.{scan_after}
use Rattle.coap_path.specs.declared.attributes.AttributeScan.TheVariants.{Start}
use Rattle.coap_path.proofs.attributes.are_attributes.Given as goal

-- The remaining bytes lead from the state to that after all bytes.
abbrev pub invariant-loop-byte : goal.invariant-loop-byte
invariant-loop-byte l = scan_after l.scan (drop l.byte-index l.bytes) ≡ scan_after Start l.bytes
