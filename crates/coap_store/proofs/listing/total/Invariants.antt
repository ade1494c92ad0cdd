-- The sum of the numbers so far.
use Rattle.std.proofs.Common.{◌≡◌, take}
use Rattle.coap_store.specs.Prelude.{sum}
use Rattle.coap_store.proofs.listing.total.Given as goal

abbrev pub invariant-loop-length : goal.invariant-loop-length
invariant-loop-length l = l.total ≡ sum (take l.length-index l.lengths)
