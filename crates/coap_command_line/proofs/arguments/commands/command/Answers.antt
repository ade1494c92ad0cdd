use Rattle.std.proofs.Common.{◌∙◌, sym, ap, map}
use Rattle.std.proofs.lemmas.List.{at_drop_all}
use Rattle.coap_command_line.specs.Prelude.{app_of, with_rule}
use Rattle.coap_command_line.specs.CommandLines.{row_rule, with_rules}
use Rattle.coap_command_line.proofs.TableLemmas.{no_more_rules, row_added}
use Rattle.coap_command_line.proofs.arguments.commands.command.Goals as goal

pub loop-row-preserved : goal.loop-row-preserved
loop-row-preserved c = record {
  same =
      row_added _ (app_of c.loop-row.command) (app_of c.in_ok-command.command) c.args.arguments.now c.loop-row.row-index
      _ c.loop-row-test.true c.loop-row.invariant.same
      (c.in_ok-command.ensures.shape c.argument.ensures.local
      ∙ ap (with_rule (app_of c.loop-row.command)) c.argument.ensures.rule);
}

pub returns : goal.returns
returns c =
    sym (sym c.loop-row.invariant.same
    ∙ at_drop_all (λ left. with_rules (app_of c.loop-row.command) (map row_rule left)) c.args.arguments.now
    c.loop-row.row-index c.loop-row-test.false
    ∙ no_more_rules (app_of c.loop-row.command))
