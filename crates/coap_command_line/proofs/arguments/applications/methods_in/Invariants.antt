use Rattle.std.proofs.Common.{◌≡◌, ◌++◌, length, option_map}
use Rattle.coap_command_line.specs.ApplicationWords.{methods_in}
use Rattle.coap_command_line.proofs.arguments.applications.methods_in.Given as goal

-- The codes so far precede those of the text that is left.
abbrev pub invariant-loop-name : goal.invariant-loop-name
invariant-loop-name l = record {
  same : methods_in l.text ≡ option_map (λ others. l.methods.items ++ others) (methods_in l.left);
}

abbrev pub decreases-loop-name : goal.decreases-loop-name
decreases-loop-name l = length l.left
