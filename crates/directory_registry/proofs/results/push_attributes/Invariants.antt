use Rattle.std.proofs.Common.{◌≡◌, map}
use Rattle.directory_registry.specs.Prelude.{with_bytes, attributes_text, resolved_attribute}
use Rattle.directory_registry.proofs.results.push_attributes.Given as goal

-- The attributes so far were appended.
abbrev pub invariant-loop-attribute : goal.invariant-loop-attribute
invariant-loop-attribute l = record {
  goes : (goal.iterator-loop-attribute).can_next l.attribute-iterator;
  ends : (goal.iterator-loop-attribute).is_finite l.attribute-iterator;
  so_far : with_bytes l.listing
      (attributes_text (map (resolved_attribute l.base) l.attribute-iterator)) ≡ with_bytes l.fn.listing
      (attributes_text (map (resolved_attribute l.base) l.fn.attributes));
}
