use Rattle.std.proofs.Common.{◌≡◌, length}
use Rattle.coap_wire.specs.Prelude.{recognised_in}
use Rattle.coap_wire.proofs.recognition.RecognisedOptionsIterator.next.Given as goal

-- No option that was skipped is recognised.
abbrev pub invariant-loop-checked : goal.invariant-loop-checked
invariant-loop-checked l = recognised_in l.self-inside.checked ≡ l.fn.self

abbrev pub decreases-loop-checked : goal.decreases-loop-checked
decreases-loop-checked l = length l.self-inside.checked
