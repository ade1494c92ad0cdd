use Rattle.std.proofs.Common.{◌≡◌, ◌++◌, length, map}
use Rattle.coap_text.specs.Words.{parts}
use Rattle.program_explain.specs.Header.{words_of}
use Rattle.program_explain.proofs.header.words_of.Given as goal

-- The words are those so far, followed by those of the text that is left.
abbrev pub invariant-loop-word : goal.invariant-loop-word
invariant-loop-word l = words_of l.options ≡ map (λ w. w.now) l.words.items ++ parts 32 l.left

abbrev pub decreases-loop-word : goal.decreases-loop-word
decreases-loop-word l = length l.left
