use Rattle.program_explain.proofs.ExplainLemmas.{there_is_one, there_is_none}
use Rattle.program_explain.proofs.explainer.events.end.Goals as goal

pub returns-in-Ok-clause-line : goal.returns-in-Ok-clause-line
returns-in-Ok-clause-line c =
    rw ((there_is_one _ c.in-Ok.ensures.answer).1, ← c.is_cut.ensures, ← c.end_words.ensures.words) c.words_line.ensures

pub returns-in-Err-clause-line : goal.returns-in-Err-clause-line
returns-in-Err-clause-line c =
    rw (there_is_none _ c.in-Err.ensures.answer) c.refusal_line.ensures
