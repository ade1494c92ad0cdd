use Rattle.std.proofs.Common.{◌≡◌, drop}
use Rattle.directory_core.specs.Prelude.{has_name, attributes_of}
use Rattle.directory_core.proofs.attributes.has.Given as goal

-- No attribute so far has the name.
abbrev pub invariant-loop-attribute : goal.invariant-loop-attribute
invariant-loop-attribute l =
    has_name (attributes_of (drop l.attribute-index l.list)) l.name ≡ has_name (attributes_of l.list) l.name
