use Rattle.std.proofs.Common.{◌≡◌, drop, map}
use Rattle.coap_command_line.specs.Prelude.{no_entries, with_texts}
use Rattle.coap_command_line.proofs.arguments.applications.entries_in.Given as goal

-- The texts that are left lead to the same entries.
abbrev pub invariant-loop-text : goal.invariant-loop-text
invariant-loop-text l = record {
  same : with_texts l.entries (map (λ t. t.now) (drop l.text-index l.texts))
      ≡ with_texts no_entries (map (λ t. t.now) l.texts);
}
