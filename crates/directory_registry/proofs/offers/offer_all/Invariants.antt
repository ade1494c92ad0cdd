use Rattle.std.proofs.Common.{◌≡◌}
use Rattle.directory_registry.specs.Prelude.{all_counted, criteria_of}
use Rattle.directory_registry.proofs.offers.offer_all.Given as goal

-- The registrations so far were counted.
abbrev pub invariant-loop-stored : goal.invariant-loop-stored
invariant-loop-stored l = record {
  goes : (goal.iterator-loop-stored).can_next l.stored-iterator;
  ends : (goal.iterator-loop-stored).is_finite l.stored-iterator;
  so_far : all_counted l.endpoints (criteria_of l.criteria) l.listing l.stored-iterator ≡ all_counted l.endpoints
      (criteria_of l.criteria) l.fn.listing l.entries.entries;
}
