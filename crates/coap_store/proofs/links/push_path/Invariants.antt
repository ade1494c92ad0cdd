-- The text so far, followed by that of the remaining segments, is the whole text.
use Rattle.std.proofs.Common.{◌≡◌, ◌++◌}
use Rattle.coap_store.specs.Prelude.{string_bytes, path_bytes}
use Rattle.coap_store.proofs.links.push_path.Given as goal

abbrev pub invariant-loop-segment : goal.invariant-loop-segment
invariant-loop-segment l =
    string_bytes l.text ++ path_bytes l.segment-iterator ≡ string_bytes l.fn.text ++ path_bytes l.path
