use Rattle.std.proofs.Common.{◌-◌, ◌≤◌, length, take, drop}
use Rattle.coap_serve.specs.Prelude.{ArePaired, Continues, journal, swept}
use Rattle.coap_serve.proofs.listener.RoundLemmas.{IsSweptTo}
use Rattle.coap_serve.proofs.door.sweep.sweep.Given as goal

-- The connections before the next one were swept.
abbrev pub invariant-loop-at : goal.invariant-loop-at
invariant-loop-at g l =
    (l.at ≤ length l.peers.entries)
    × IsSweptTo (Continues
    (journal (g.M.Monitor.follows l.fn.monitor) (g.A.Application.follows l.fn.application) (g.D.Door.calls l.fn.door))
    (journal (g.M.Monitor.follows l.monitor) (g.A.Application.follows l.application) (g.D.Door.calls l.door)))
    (swept l.fn.limit.idle l.fn.limit.now l.fn.server l.fn.peers.entries) l.fn.limit.idle l.fn.limit.now l.fn.server
    l.server (take l.at l.peers.entries) (drop l.at l.peers.entries)
    × ArePaired l.server l.peers.entries

abbrev pub decreases-loop-at : goal.decreases-loop-at
decreases-loop-at g l = length l.peers.entries - l.at
