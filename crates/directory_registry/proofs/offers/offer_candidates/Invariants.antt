use Rattle.std.proofs.Common.{◌≡◌, ◌≤◌, ◌-◌}
use Rattle.directory_registry.specs.Prelude.{all_counted, criteria_of}
use Rattle.directory_registry.proofs.CandidateLemmas.{from_number}
use Rattle.directory_registry.proofs.offers.offer_candidates.Given as goal

-- The registrations before `from` were counted.
abbrev pub invariant-loop-number : goal.invariant-loop-number
invariant-loop-number l = record {
  within : l.from ≤ 18446744073709551616;
  so_far : all_counted l.endpoints (criteria_of l.criteria) l.listing
      (from_number l.from l.entries.entries) ≡ all_counted l.endpoints
      (criteria_of l.criteria) l.fn.listing l.entries.entries;
}

abbrev pub decreases-loop-number : goal.decreases-loop-number
decreases-loop-number l = 18446744073709551616 - l.from
