use Rattle.std.proofs.Common.{map, map-id, rules, ◌≡◌, ◌∷◌, []}
use Rattle.std.proofs.lemmas.List.{map-append}
use Rattle.std.proofs.lemmas.Map.Iter.{iter_end}
use Rattle.coap_io.proofs.streams.DeviceLemmas.{calls_then, no_calls}
use Rattle.coap_serve.specs.Prelude.{Closed, values_of}
use Rattle.coap_serve.proofs.door.service.Service.close.Goals as goal

pub loop-peer-init : goal.loop-peer-init
loop-peer-init g c = no_calls _

pub loop-peer-preserved : goal.loop-peer-preserved
loop-peer-preserved g c =
    rw (map-append (λ p. Closed p.wire) c.loop-peer.yielded (c.in-Some.peer ∷ [])) (calls_then _ _ _ _ _
    c.loop-peer.invariant (rw c.into_wire.ensures at c.closed.ensures))

pub returns : goal.returns
returns g c =
    let all : map (λ p. p) c.loop-peer.yielded ≡ values_of c.args.self.peers.entries = search (rules, iter_end) in
    rw (← all, map-id) c.loop-peer.invariant
