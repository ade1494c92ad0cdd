use Rattle.std.proofs.Common.{map}
use Rattle.coap_serve.specs.Prelude.{AddsCalls, Closed}
use Rattle.coap_serve.proofs.door.service.Service.close.Given as goal

-- The listener got back the wires of the connections so far.
abbrev pub invariant-loop-peer : goal.invariant-loop-peer
invariant-loop-peer g l =
    AddsCalls (g.D.Door.calls l.fn.door) (g.D.Door.calls l.door) (map (λ p. Closed p.wire) l.yielded)
