use Rattle.std.proofs.Common.{◌≡◌, ◌++◌, length, map}
use Rattle.coap_script.specs.Prelude.{words_of}
use Rattle.coap_script.proofs.scripts.words.words_in.Given as goal

-- The words are those so far, then those of the text that is left.
abbrev pub invariant-loop-word : goal.invariant-loop-word
invariant-loop-word l = map (λ w. w.now) l.words.items ++ words_of l.left ≡ words_of l.line

abbrev pub decreases-loop-word : goal.decreases-loop-word
decreases-loop-word l = length l.left
