use Rattle.std.proofs.Common.{◌≡◌, length}
use Rattle.coap_command_line.specs.CommandLines.{after}
use Rattle.coap_command_line.proofs.arguments.option_values.after.Given as goal

-- The bytes that are left have the same bytes after the first separator.
abbrev pub invariant-loop-bytes : goal.invariant-loop-bytes
invariant-loop-bytes l = record {
  same : after l.separator l.bytes ≡ after l.separator l.fn.bytes;
}

abbrev pub decreases-loop-bytes : goal.decreases-loop-bytes
decreases-loop-bytes l = length l.bytes
