use Rattle.std.proofs.Common.{◌≡◌, length}
use Rattle.coap_sockets.proofs.woken.Woken.new.Given as goal

-- There is one item for each iteration.
abbrev pub invariant-loop : goal.invariant-loop
invariant-loop l = length l.places.items ≡ l.counter
