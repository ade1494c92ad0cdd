use Rattle.std.proofs.Common.{◌≡◌, ℕ, ◌+◌, ◌<◌, ◌≤◌}
use Rattle.coap_server_engine.specs.Prelude.{bit_of}
use Rattle.coap_server_polled.proofs.due.follow_removal.Given as goal

-- The indices below that of the loop are done, and the others are as before.
abbrev pub invariant-loop-i : goal.invariant-loop-i
invariant-loop-i l = record {
  before : (j : ℕ) → j < l.at → bit_of l.set.words j ≡ bit_of l.fn.set.words j;
  done : (j : ℕ) → l.at ≤ j → j < l.i → bit_of l.set.words j ≡ bit_of l.fn.set.words (j + 1);
  rest : (j : ℕ) → l.i ≤ j → bit_of l.set.words j ≡ bit_of l.fn.set.words j;
}
