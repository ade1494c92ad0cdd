use Rattle.std.proofs.Common.{◌≡◌, ◌≤◌, ℕ, true}
use Rattle.directory_registry.proofs.RegistryLemmas.{all_after}
use Rattle.directory_registry.proofs.registry.earliest_deadline.Given as goal

-- No registration so far ends before the time.
abbrev pub invariant-loop-stored : goal.invariant-loop-stored
invariant-loop-stored l = record {
  goes : (goal.iterator-loop-stored).can_next l.stored-iterator;
  ends : (goal.iterator-loop-stored).is_finite l.stored-iterator;
  so_far : (m : ℕ) → m ≤ l.earliest → all_after m l.stored-iterator ≡ true → all_after m l.entries.entries ≡ true;
}
