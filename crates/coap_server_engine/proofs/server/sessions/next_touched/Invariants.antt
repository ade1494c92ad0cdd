use Rattle.std.proofs.Common.{◌≤◌, ◌-◌, length}
use Rattle.coap_server_engine.specs.Prelude.{AreUntouched, Covers, unmarked}
use Rattle.coap_server_engine.proofs.server.sessions.next_touched.Given as goal

-- No connection so far is affected, and the set has all connections that the change may concern.
abbrev pub invariant-loop-at : goal.invariant-loop-at
invariant-loop-at l =
    (l.from ≤ l.at) × (l.at ≤ length l.sessions.entries) × (AreUntouched l.cause l.now l.from l.at l.sessions.entries
    × Covers l.cause l.set.words (unmarked l.sessions.entries))

abbrev pub decreases-loop-at : goal.decreases-loop-at
decreases-loop-at l = length l.sessions.entries - l.at
