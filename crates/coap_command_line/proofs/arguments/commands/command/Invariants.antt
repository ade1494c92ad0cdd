use Rattle.std.proofs.Common.{◌≡◌, drop, map}
use Rattle.coap_command_line.specs.Prelude.{app_of}
use Rattle.coap_command_line.specs.CommandLines.{program_app, row_rule, with_rules}
use Rattle.coap_command_line.proofs.arguments.commands.command.Given as goal

-- The command so far, with the arguments of the rows that are left, is that of the program.
abbrev pub invariant-loop-row : goal.invariant-loop-row
invariant-loop-row l = record {
  same : with_rules (app_of l.command) (map row_rule (drop l.row-index l.arguments)) ≡ program_app l.name l.arguments;
}
