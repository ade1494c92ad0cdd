-- The options of the entries before the next one were appended.
use Rattle.std.proofs.Common.{◌≡◌, ◌++◌, take}
use Rattle.std.specs.List.{flat_map}
use Rattle.program_server_common.specs.RecordHeaders.{entry_text}
use Rattle.program_server_common.proofs.header.append_entries.Given as goal

abbrev pub invariant-loop-entry : goal.invariant-loop-entry
invariant-loop-entry l =
    l.text.items ≡ l.fn.text.items ++ flat_map (λ entry. entry_text l.quote entry.now) (take l.entry-index l.entries)
