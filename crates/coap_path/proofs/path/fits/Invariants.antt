use Rattle.std.proofs.Common.{◌≡◌, ◌≤◌, ◌+◌, drop}
use Rattle.coap_path.specs.Prelude.{written_length, segment_list}
use Rattle.coap_path.proofs.path.fits.Given as goal

-- The room is that of all bytes, less the segments before the remaining ones.
abbrev pub invariant-loop-segment : goal.invariant-loop-segment
invariant-loop-segment l =
    (l.room ≤ 255)
    × (255 + written_length (segment_list (drop l.segment-index l.segments))
    ≡ l.room + written_length (segment_list l.segments))
