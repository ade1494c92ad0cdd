use Rattle.std.proofs.Common.{◌≡◌}
use Rattle.std.specs.List.{list_all}
use Rattle.directory_core.specs.Prelude.{is_limited}
use Rattle.directory_core.proofs.parameters.are_limited.Given as goal

-- The targets so far are in the limited format.
abbrev pub invariant-loop-link : goal.invariant-loop-link
invariant-loop-link l = record {
  goes : (goal.iterator-loop-link).can_next l.link-iterator;
  ends : (goal.iterator-loop-link).is_finite l.link-iterator;
  so_far : list_all is_limited l.link-iterator ≡ list_all is_limited l.fn.links;
}
