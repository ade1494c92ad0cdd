use Rattle.std.proofs.Common.{ℕ, ◌*◌, ◌<◌, ◌≤◌}
use Rattle.coap_server_engine.specs.Prelude.{IsOutside}
use Rattle.coap_server_engine.proofs.index_set.IndexSet.next.Given as goal

-- No index of the words before this one belongs to the set.
abbrev pub invariant-loop-word : goal.invariant-loop-word
invariant-loop-word l = (i : ℕ) → l.from ≤ i → i < l.word * 64 → IsOutside l.self.words i
