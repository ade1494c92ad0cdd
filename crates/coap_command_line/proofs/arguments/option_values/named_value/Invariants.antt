use Rattle.std.proofs.Common.{◌≡◌, length}
use Rattle.coap_command_line.specs.CommandLines.{named_value}
use Rattle.coap_command_line.proofs.arguments.option_values.named_value.Given as goal

-- The rows that are left have the same value.
abbrev pub invariant-loop-table : goal.invariant-loop-table
invariant-loop-table g l = record {
  same : named_value l.table l.name ≡ named_value l.fn.table l.name;
}

abbrev pub decreases-loop-table : goal.decreases-loop-table
decreases-loop-table g l = length l.table
