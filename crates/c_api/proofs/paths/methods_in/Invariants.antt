use Rattle.std.proofs.Common.{◌≡◌, ◌-◌, ◌++◌}
use Rattle.c_api.specs.PathTexts.{set_bits, methods_named}
use Rattle.c_api.proofs.paths.methods_in.Given as goal

-- The codes so far, then those of the bits that are left.
abbrev pub invariant-loop-number : goal.invariant-loop-number
invariant-loop-number l = l.methods.items ++ set_bits (32 - l.number) l.rest l.number ≡ methods_named l.bits
