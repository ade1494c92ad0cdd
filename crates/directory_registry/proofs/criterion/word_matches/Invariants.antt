use Rattle.std.proofs.Common.{◌≡◌, length}
use Rattle.std.specs.List.{list_any}
use Rattle.directory_registry.specs.Prelude.{value_matches, words}
use Rattle.directory_registry.proofs.criterion.word_matches.Given as goal

-- No word so far matches.
abbrev pub invariant-loop-word : goal.invariant-loop-word
invariant-loop-word l =
    list_any (value_matches l.pattern) (words l.rest) ≡ list_any (value_matches l.pattern) (words l.value)

abbrev pub decreases-loop-word : goal.decreases-loop-word
decreases-loop-word l = length l.rest
