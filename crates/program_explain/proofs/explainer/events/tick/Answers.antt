use Rattle.program_explain.proofs.explainer.events.tick.Goals as goal

pub returns-in-Err-clause-line : goal.returns-in-Err-clause-line
returns-in-Err-clause-line c =
    rw (← c.in-Err.ensures.answer) c.refusal_line.ensures
