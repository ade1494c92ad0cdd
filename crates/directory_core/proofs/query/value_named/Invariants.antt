use Rattle.std.proofs.Common.{◌≡◌}
use Rattle.directory_core.specs.Prelude.{named}
use Rattle.directory_core.proofs.query.value_named.Given as goal

-- No query so far has the name.
abbrev pub invariant-loop-option : goal.invariant-loop-option
invariant-loop-option l = record {
  goes : (goal.iterator-loop-option).can_next l.option-iterator;
  ends : (goal.iterator-loop-option).is_finite l.option-iterator;
  so_far : named l.name l.option-iterator ≡ named l.name l.request.options;
}
