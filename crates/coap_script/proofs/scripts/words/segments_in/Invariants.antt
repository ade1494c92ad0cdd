use Rattle.std.proofs.Common.{◌≡◌, ◌++◌, length, map}
use Rattle.coap_script.specs.Prelude.{cow_slice_items, percent_decode, parts, slash, segments_of}
use Rattle.coap_script.proofs.scripts.words.segments_in.Given as goal

-- The segments are those so far, then those of the text that is left.
abbrev pub invariant-loop-segment : goal.invariant-loop-segment
invariant-loop-segment l =
    map cow_slice_items l.segments.items ++ map percent_decode (parts slash l.left) ≡ segments_of l.text

abbrev pub decreases-loop-segment : goal.decreases-loop-segment
decreases-loop-segment l = length l.left
