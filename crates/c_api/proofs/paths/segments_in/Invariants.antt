use Rattle.std.proofs.Common.{◌≡◌, ◌++◌, length, map}
use Rattle.coap_text.specs.Words.{parts}
use Rattle.c_api.specs.PathTexts.{text_segments}
use Rattle.c_api.proofs.paths.segments_in.Given as goal

-- The segments are those so far, then those of the text that is left.
abbrev pub invariant-loop-segment : goal.invariant-loop-segment
invariant-loop-segment l = map (λ s. s.now) l.segments.items ++ parts 47 l.left ≡ text_segments l.text

abbrev pub decreases-loop-segment : goal.decreases-loop-segment
decreases-loop-segment l = length l.left
