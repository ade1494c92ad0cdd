use Rattle.program_explain.specs.Explanations.{explained}
use Rattle.program_explain.proofs.ExplainLemmas.{passes_none}
use Rattle.program_explain.proofs.PrintedLemmas.{so_on}
use Rattle.program_explain.proofs.explainer.Explainer.explain.Goals as goal

pub returns-in-In-clause-explained : goal.returns-in-In-clause-explained
unfolding explained
returns-in-In-clause-explained g c =
    rw (c.in-In.is, ← c.deref.ensures.value) (so_on c.receive.result (λ x. (0, x)) c.receive.ensures.explained)

pub returns-in-Drain-clause-explained : goal.returns-in-Drain-clause-explained
unfolding explained
returns-in-Drain-clause-explained g c = rw c.in-Drain.is c.send.ensures.explained

pub run-requires-clause-other : goal.run-requires-clause-other
run-requires-clause-other g c = passes_none c.args.event.now c.in_default.not-In c.in_default.not-Drain
