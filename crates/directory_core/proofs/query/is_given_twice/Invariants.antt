use Rattle.std.proofs.Common.{◌≡◌, cond, is_some}
use Rattle.directory_core.specs.Prelude.{named, is_repeated}
use Rattle.directory_core.proofs.query.is_given_twice.Given as goal

-- If a query so far has the name, another one is left if and only if two have it; otherwise two are left.
abbrev pub invariant-loop-option : goal.invariant-loop-option
invariant-loop-option l = record {
  goes : (goal.iterator-loop-option).can_next l.option-iterator;
  ends : (goal.iterator-loop-option).is_finite l.option-iterator;
  so_far : cond l.found (is_some (named l.name l.option-iterator))
      (is_repeated l.name l.option-iterator) ≡ is_repeated l.name l.request.options;
}
