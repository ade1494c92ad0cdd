use Rattle.std.proofs.Common.{◌-◌, ◌≤◌, length, map}
use Rattle.coap_serve.specs.Prelude.{AreAsleep, peer_status}
use Rattle.coap_serve.proofs.listener.SleepLemmas.{IsIdleTo}
use Rattle.coap_serve.proofs.door.next_ready.next_wait.Given as goal

-- Nothing can be done on the connections before the next one, and `due` is their earliest deadline.
abbrev pub invariant-loop-at : goal.invariant-loop-at
invariant-loop-at g l =
    (l.at ≤ length l.peers.entries)
    × IsIdleTo (map (peer_status g.W.Ready.readable g.W.Ready.writable l.server) l.peers.entries) l.at l.due
    × AreAsleep g.W.Ready.readable g.W.Ready.writable l.awake l.server l.peers.entries

abbrev pub decreases-loop-at : goal.decreases-loop-at
decreases-loop-at g l = length l.peers.entries - l.at
