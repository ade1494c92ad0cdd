use Rattle.std.proofs.Common.{◌≡◌, true, length, map}
use Rattle.coap_print.specs.Names.{option_in, option_row, options_are_text}
use Rattle.coap_print.proofs.names.find_option.Given as goal

-- The rows that are left have the same first row with the number.
abbrev pub invariant-loop-table : goal.invariant-loop-table
invariant-loop-table l = record {
  same : option_in (map option_row l.table) l.number ≡ option_in (map option_row l.fn.table) l.number;
  text : options_are_text (map option_row l.table) ≡ true;
}

abbrev pub decreases-loop-table : goal.decreases-loop-table
decreases-loop-table l = length l.table
