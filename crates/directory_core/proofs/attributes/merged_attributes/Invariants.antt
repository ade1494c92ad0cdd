use Rattle.std.proofs.Common.{◌≡◌, ◌≤◌, ◌++◌, length, not, filter, drop}
use Rattle.directory_core.specs.Prelude.{Attribute, attributes_of, has_name, merged}
use Rattle.directory_core.proofs.attributes.merged_attributes.Given as goal

-- The attributes so far, and those that are left, are all that stay.
abbrev pub invariant-loop-attribute : goal.invariant-loop-attribute
invariant-loop-attribute l = record {
  goes : (goal.iterator-loop-attribute).can_next l.attribute-iterator;
  ends : (goal.iterator-loop-attribute).is_finite l.attribute-iterator;
  few : length l.list.items ≤ 64;
  so_far : attributes_of l.list.items
      ++ filter (λ (a : Attribute). not (has_name (attributes_of l.new) a.name)) l.attribute-iterator ≡ filter
      (λ (a : Attribute). not (has_name (attributes_of l.new) a.name)) l.fn.old;
}

-- They and the new ones so far, and those that are left, are all.
abbrev pub invariant-loop-attribute-2 : goal.invariant-loop-attribute-2
invariant-loop-attribute-2 l = record {
  few : length l.list.items ≤ 64;
  so_far : attributes_of l.list.items
      ++ attributes_of (drop l.attribute-index l.new) ≡ merged l.fn.old (attributes_of l.new);
}
