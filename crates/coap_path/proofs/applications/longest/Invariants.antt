use Rattle.std.proofs.Common.{◌≡◌, drop}
use Rattle.coap_path.specs.Prelude.{longer_entry, entry_for, segment_list, option_copied}
use Rattle.coap_path.proofs.applications.longest.Given as goal

-- The longer one of the best entry so far and that of the remaining entries is that of all entries.
abbrev pub invariant-loop-entry : goal.invariant-loop-entry
invariant-loop-entry l =
    longer_entry (option_copied l.best) (entry_for (drop l.entry-index l.entries) (segment_list l.path))
    ≡ entry_for l.entries (segment_list l.path)
