use Rattle.std.proofs.Common.{refl}
use Rattle.program_explain.proofs.explainer.Explainer.run.Goals as goal

pub returns-clause-explained : goal.returns-clause-explained
returns-clause-explained g c = (
  0,
  rw c.in_ok-shown.ensures.explained (record { prints = c.in_ok-show_line.ensures.prints; messages = refl }),
)
