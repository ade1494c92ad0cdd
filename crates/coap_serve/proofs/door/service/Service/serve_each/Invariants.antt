use Rattle.std.proofs.Common.{◌≡◌, ◌-◌, ◌≤◌, IfSome, length, slice_get, true}
use Rattle.coap_serve.specs.Prelude.{AreAsleep, CanGoOn, Continues, HasAccepted, HasServed, journal, loop_state}
use Rattle.coap_serve.specs.Prelude.{peer_status, views_of, way}
use Rattle.coap_serve.proofs.listener.RoundLemmas.{AreServedTo}
use Rattle.coap_serve.proofs.door.service.Service.serve_each.Given as goal

-- The connections before the next one were served or skipped. Something can be done on the next one.
abbrev pub invariant-loop-at : goal.invariant-loop-at
invariant-loop-at g l =
    let known =
    Continues (journal (g.M.Monitor.follows l.fn.monitor) (g.A.Application.follows l.fn.application)
    (g.D.Door.calls l.fn.door)) (journal (g.M.Monitor.follows l.monitor) (g.A.Application.follows l.application)
    (g.D.Door.calls l.door)) in
    record {
      within : l.at ≤ length l.self.peers.entries;
      done : HasAccepted (AreServedTo (way g.A.Application.follows l.fn.self.second (views_of g.W.Ready.readable
          g.W.Ready.writable g.W.Wire.given g.W.Wire.written g.W.Wire.answers g.W.Wire.rooms))
          (loop_state l.fn.self.server l.fn.self.peers.entries) (loop_state l.self.server l.self.peers.entries) l.at)
          known l.fn.self.server l.self.server;
      shows : HasServed known l.fn.self.server l.self.server;
      asleep : AreAsleep g.W.Ready.readable g.W.Ready.writable l.self.awake l.self.server l.self.peers.entries;
      times : (l.self.second ≡ l.fn.self.second) × (l.self.idle ≡ l.fn.self.idle);
      spent : l.self.is_spent ≡ true;
      next : IfSome (slice_get l.self.peers.entries l.at)
          (λ e. CanGoOn (peer_status g.W.Ready.readable g.W.Ready.writable l.self.server e) true);
    }

abbrev pub decreases-loop-at : goal.decreases-loop-at
decreases-loop-at g l = length l.self.peers.entries - l.at
