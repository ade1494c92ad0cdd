use Rattle.std.proofs.Common.{◌-◌, ◌≤◌}
use Rattle.coap_server_session.specs.Prelude.{AreClear, AreBlocks}
use Rattle.coap_server_session.proofs.flags.first_from.Given as goal

-- No flag before this index is set.
abbrev pub invariant-loop-at : goal.invariant-loop-at
invariant-loop-at l = (l.at ≤ 256) × AreClear 0 l.at l.flags × AreBlocks l.flags l.blocks

abbrev pub decreases-loop-at : goal.decreases-loop-at
decreases-loop-at l = 256 - l.at
