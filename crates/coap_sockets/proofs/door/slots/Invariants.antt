use Rattle.std.proofs.Common.{◌≡◌, length}
use Rattle.coap_sockets.proofs.door.slots.Given as goal

-- There is one place for each iteration.
abbrev pub invariant-loop : goal.invariant-loop
invariant-loop l = length l.slots.items ≡ l.counter
