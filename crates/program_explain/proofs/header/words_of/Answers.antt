use Rattle.program_explain.proofs.HeaderLemmas.{not_utf8}
use Rattle.program_explain.proofs.header.words_of.Goals as goal

pub returns-in_default-from_utf8-clause-none : goal.returns-in_default-from_utf8-clause-none
returns-in_default-from_utf8-clause-none c =
    not_utf8 _ _ _ _ _ c.loop-word.invariant c.in-Some.ensures.parts c.in_default-from_utf8.ensures.cases.0

pub returns-in_default-from_utf8-2-clause-none : goal.returns-in_default-from_utf8-2-clause-none
returns-in_default-from_utf8-2-clause-none c =
    not_utf8 _ _ _ _ _ c.loop-word.invariant c.in_default.ensures.parts c.in_default-from_utf8-2.ensures.cases.0
