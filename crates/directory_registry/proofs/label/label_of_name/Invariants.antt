use Rattle.std.proofs.Common.{◌≡◌, ◌<◌, drop}
use Rattle.std.specs.List.{fold}
use Rattle.directory_registry.specs.Prelude.{next_label}
use Rattle.directory_registry.proofs.label.label_of_name.Given as goal

-- The bytes so far are in the label.
abbrev pub invariant-loop-byte : goal.invariant-loop-byte
invariant-loop-byte l = record {
  small : l.label < 549755813888;
  so_far : fold next_label l.label (drop l.byte-index l.name) ≡ fold next_label 0 l.name;
}
