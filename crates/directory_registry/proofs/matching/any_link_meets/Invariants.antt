use Rattle.std.proofs.Common.{◌≡◌}
use Rattle.std.specs.List.{list_any}
use Rattle.directory_registry.specs.Prelude.{link_meets, criterion_of}
use Rattle.directory_registry.proofs.matching.any_link_meets.Given as goal

-- No link so far meets the criterion.
abbrev pub invariant-loop-link : goal.invariant-loop-link
invariant-loop-link l = record {
  goes : (goal.iterator-loop-link).can_next l.link-iterator;
  ends : (goal.iterator-loop-link).is_finite l.link-iterator;
  so_far : list_any (link_meets (criterion_of l.criterion) l.base) l.link-iterator ≡ list_any
      (link_meets (criterion_of l.criterion) l.base) l.fn.links;
}
