use Rattle.std.proofs.Common.{◌≡◌, true, length, map}
use Rattle.coap_command_line.specs.Reasons.{row_in, value_row, rows_are_text}
use Rattle.coap_command_line.proofs.arguments.reasons.find_row.Given as goal

-- The rows that are left have the same first row of the option.
abbrev pub invariant-loop-table : goal.invariant-loop-table
invariant-loop-table l = record {
  same : row_in (map value_row l.table) l.name ≡ row_in (map value_row l.fn.table) l.name;
  text : rows_are_text (map value_row l.table) ≡ true;
}

abbrev pub decreases-loop-table : goal.decreases-loop-table
decreases-loop-table l = length l.table
