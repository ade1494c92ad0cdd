use Rattle.std.proofs.Common.{◌≡◌, drop}
use Rattle.coap_path.specs.Prelude.{has_prefix}
use Rattle.coap_path.proofs.applications.has_prefix.Given as goal

-- No entry so far has the prefix.
abbrev pub invariant-loop-entry : goal.invariant-loop-entry
invariant-loop-entry l = has_prefix (drop l.entry-index l.entries) l.prefix ≡ has_prefix l.entries l.prefix
