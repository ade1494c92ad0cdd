use Rattle.std.proofs.Common.{ℕ, ◌-◌, ◌<◌, ◌≤◌, IfSome, false, length, slice_get}
use Rattle.coap_serve.specs.Prelude.{CanGoOn, peer_status}
use Rattle.coap_serve.proofs.door.next_ready.next_ready.Given as goal

-- Nothing can be done on the connections skipped so far.
abbrev pub invariant-loop-at : goal.invariant-loop-at
invariant-loop-at g l =
    (l.from ≤ l.at) × (l.at ≤ length l.peers.entries)
    × ((i : ℕ) → l.from ≤ i → i < l.at → IfSome (slice_get l.peers.entries i)
    (λ e. CanGoOn (peer_status g.W.Ready.readable g.W.Ready.writable l.server e) false))

abbrev pub decreases-loop-at : goal.decreases-loop-at
decreases-loop-at g l = length l.peers.entries - l.at
