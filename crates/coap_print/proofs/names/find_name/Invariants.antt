use Rattle.std.proofs.Common.{◌≡◌, true, length, map}
use Rattle.coap_print.specs.Names.{name_in, name_row, names_are_text}
use Rattle.coap_print.proofs.names.find_name.Given as goal

-- The rows that are left have the same first row with the number.
abbrev pub invariant-loop-table : goal.invariant-loop-table
invariant-loop-table l = record {
  same : name_in (map name_row l.table) l.number ≡ name_in (map name_row l.fn.table) l.number;
  text : names_are_text (map name_row l.table) ≡ true;
}

abbrev pub decreases-loop-table : goal.decreases-loop-table
decreases-loop-table l = length l.table
