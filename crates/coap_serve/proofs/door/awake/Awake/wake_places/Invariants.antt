use Rattle.std.proofs.Common.{ℕ}
use Rattle.coap_serve.specs.Prelude.{IsOutside}
use Rattle.coap_serve.proofs.door.awake.Awake.wake_places.Given as goal

-- Each connection that sleeps did so before.
abbrev pub invariant-loop-place : goal.invariant-loop-place
invariant-loop-place l = (i : ℕ) → IsOutside l.self.set.words i → IsOutside l.fn.self.set.words i
