use Rattle.std.proofs.Common.{◌≡◌}
use Rattle.std.specs.List.{list_all}
use Rattle.directory_registry.specs.Prelude.{agrees}
use Rattle.directory_registry.proofs.label.attributes_agree.Given as goal

-- The attributes so far agree.
abbrev pub invariant-loop-attribute : goal.invariant-loop-attribute
invariant-loop-attribute l = record {
  goes : (goal.iterator-loop-attribute).can_next l.attribute-iterator;
  ends : (goal.iterator-loop-attribute).is_finite l.attribute-iterator;
  so_far : list_all (agrees l.label) l.attribute-iterator ≡ list_all (agrees l.label) l.fn.attributes;
}
