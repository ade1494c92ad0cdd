use Rattle.std.proofs.Common.{◌≡◌}
use Rattle.directory_registry.specs.Prelude.{first_label}
use Rattle.directory_registry.proofs.label.label_of_first.Given as goal

-- No attribute so far is `ep`.
abbrev pub invariant-loop-attribute : goal.invariant-loop-attribute
invariant-loop-attribute l = record {
  goes : (goal.iterator-loop-attribute).can_next l.attribute-iterator;
  ends : (goal.iterator-loop-attribute).is_finite l.attribute-iterator;
  so_far : first_label l.attribute-iterator ≡ first_label l.fn.attributes;
}
