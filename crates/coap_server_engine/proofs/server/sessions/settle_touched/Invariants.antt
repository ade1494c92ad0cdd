use Rattle.std.proofs.Common.{◌≡◌, ◌≤◌, ◌-◌, length}
use Rattle.coap_server_engine.specs.Prelude.{splits_of, Covers, unmarked}
use Rattle.coap_server_engine.proofs.values.ConcernedLemmas.{AreUpTo}
use Rattle.coap_server_engine.proofs.server.sessions.settle_touched.Given as goal

-- The connections before this one are settled, and their changed marks are current. All split frames stay. The set
-- has all connections that the change may concern.
abbrev pub invariant-loop-at : goal.invariant-loop-at
invariant-loop-at l =
    (l.from ≤ length l.sessions.entries) × (AreUpTo l.cause l.shared l.from l.fn.sessions.entries l.sessions.entries
    × ((splits_of l.sessions.entries ≡ splits_of l.fn.sessions.entries)
    × Covers l.cause l.set.words (unmarked l.sessions.entries)))

abbrev pub decreases-loop-at : goal.decreases-loop-at
decreases-loop-at l = length l.sessions.entries - l.from
