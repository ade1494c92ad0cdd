use Rattle.program_explain.proofs.explainer.events.respond.Goals as goal

pub returns-in-Ok-clause-line : goal.returns-in-Ok-clause-line
returns-in-Ok-clause-line c =
    rw c.in-Ok.ensures.answer c.words_line.ensures

pub returns-in-Err-clause-line : goal.returns-in-Err-clause-line
returns-in-Err-clause-line c =
    rw (c.in-Err.ensures.answer, ← c.response_number.ensures) c.refusal_line.ensures
