use Rattle.std.proofs.Common.{◌≡◌, drop}
use Rattle.coap_path.specs.Prelude.{are_distinct_methods}
use Rattle.coap_path.proofs.methods.are_methods.Given as goal

-- The codes so far are methods, and different from each later one.
abbrev pub invariant-loop-i : goal.invariant-loop-i
invariant-loop-i l = are_distinct_methods (drop l.i l.methods) ≡ are_distinct_methods l.methods
