use Rattle.program_explain.proofs.explainer.events.remove.Goals as goal

pub returns-in-Err-clause-line : goal.returns-in-Err-clause-line
returns-in-Err-clause-line c =
    rw (c.in-Err.ensures.answer, ← c.store_number.ensures) c.refusal_line.ensures
