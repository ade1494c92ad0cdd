use Rattle.std.proofs.Common.{◌≡◌, ◌++◌, drop, true}
use Rattle.std.specs.List.{list_all}
use Rattle.directory_core.specs.Prelude.{attributes_of, is_attribute}
use Rattle.directory_core.proofs.attributes.text_of.Given as goal

-- The attributes so far, and those that are left, are all.
abbrev pub invariant-loop-attribute : goal.invariant-loop-attribute
invariant-loop-attribute l = record {
  so_far : l.text ++ attributes_of (drop l.attribute-index l.list) ≡ attributes_of l.list;
  each : list_all is_attribute (attributes_of (drop l.attribute-index l.list)) ≡ true;
}
