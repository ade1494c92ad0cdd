use Rattle.std.proofs.Common.{sym, ◌∙◌}
use Rattle.program_explain.proofs.ExplainLemmas.{stopped_before}
use Rattle.program_explain.proofs.explainer.bytes.stop_line.Goals as goal

pub returns-then-is_some : goal.returns-then-is_some
returns-then-is_some c = sym (stopped_before c.args.id c.args.before _ (sym c.is_some.ensures ∙ c.if-is_some.true))
