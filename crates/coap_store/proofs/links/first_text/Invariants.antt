-- The text so far, followed by that of the remaining entries, is the whole text.
use Rattle.std.proofs.Common.{◌≡◌, ◌++◌, drop, Some}
use Rattle.coap_store.specs.Prelude.{flat_map, first_bytes, link_bytes}
use Rattle.coap_store.proofs.links.first_text.Given as goal

abbrev pub invariant-loop-entry : goal.invariant-loop-entry
invariant-loop-entry l =
    l.text.items ++ flat_map link_bytes (drop l.entry-index l.entries) ≡ first_bytes (Some l.applications)
