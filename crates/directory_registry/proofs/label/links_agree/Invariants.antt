use Rattle.std.proofs.Common.{◌≡◌}
use Rattle.std.specs.List.{list_all}
use Rattle.directory_registry.specs.Prelude.{link_agrees}
use Rattle.directory_registry.proofs.label.links_agree.Given as goal

-- The links so far agree.
abbrev pub invariant-loop-link : goal.invariant-loop-link
invariant-loop-link l = record {
  goes : (goal.iterator-loop-link).can_next l.link-iterator;
  ends : (goal.iterator-loop-link).is_finite l.link-iterator;
  so_far : list_all (link_agrees l.label) l.link-iterator ≡ list_all (link_agrees l.label) l.fn.links;
}
