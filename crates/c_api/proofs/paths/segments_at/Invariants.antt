use Rattle.std.proofs.Common.{◌≡◌, length, map}
use Rattle.c_api.specs.PathTexts.{listed_segments}
use Rattle.c_api.proofs.ListedLemmas.{after_front}
use Rattle.c_api.proofs.paths.segments_at.Given as goal

-- The segments are those so far, then those of the list that is left.
abbrev pub invariant-loop-size : goal.invariant-loop-size
invariant-loop-size l =
    after_front (map (λ s. s.now) l.segments.items) (listed_segments l.left) ≡ listed_segments l.list

abbrev pub decreases-loop-size : goal.decreases-loop-size
decreases-loop-size l = length l.left
