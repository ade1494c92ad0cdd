use Rattle.std.proofs.Common.{◌≡◌}
use Rattle.std.specs.List.{list_any}
use Rattle.directory_registry.specs.Prelude.{attribute_meets, criterion_of}
use Rattle.directory_registry.proofs.criterion.any_attribute_meets.Given as goal

-- No attribute so far meets the criterion.
abbrev pub invariant-loop-attribute : goal.invariant-loop-attribute
invariant-loop-attribute l = record {
  goes : (goal.iterator-loop-attribute).can_next l.attribute-iterator;
  ends : (goal.iterator-loop-attribute).is_finite l.attribute-iterator;
  so_far : list_any (attribute_meets (criterion_of l.criterion)) l.attribute-iterator ≡ list_any
      (attribute_meets (criterion_of l.criterion)) l.fn.attributes;
}
