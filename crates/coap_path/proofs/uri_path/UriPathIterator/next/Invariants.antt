use Rattle.std.proofs.Common.{◌≡◌, length}
use Rattle.coap_path.specs.Prelude.{uri_segments}
use Rattle.coap_path.proofs.uri_path.UriPathIterator.next.Given as goal

-- Only options that are no segments were skipped.
abbrev pub invariant-loop-option : goal.invariant-loop-option
invariant-loop-option l = uri_segments l.self-inside.options ≡ l.fn.self

abbrev pub decreases-loop-option : goal.decreases-loop-option
decreases-loop-option l = length l.self-inside.options
