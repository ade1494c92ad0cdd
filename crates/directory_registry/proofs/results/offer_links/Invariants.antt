use Rattle.std.proofs.Common.{◌≡◌}
use Rattle.std.specs.List.{fold}
use Rattle.directory_registry.specs.Prelude.{offered_link, criteria_of, registration_of}
use Rattle.directory_registry.proofs.results.offer_links.Given as goal

-- The links so far were counted.
abbrev pub invariant-loop-link : goal.invariant-loop-link
invariant-loop-link l = record {
  goes : (goal.iterator-loop-link).can_next l.link-iterator;
  ends : (goal.iterator-loop-link).is_finite l.link-iterator;
  so_far : fold (offered_link (criteria_of l.criteria) (registration_of l.registration)) l.listing l.link-iterator ≡
      fold (offered_link (criteria_of l.criteria) (registration_of l.registration)) l.fn.listing
      (registration_of l.registration).links;
}
