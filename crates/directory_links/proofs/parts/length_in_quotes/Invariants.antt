use Rattle.std.proofs.Common.{◌≡◌, drop, false}
use Rattle.directory_links.specs.Prelude.{quoted_length}
use Rattle.directory_links.specs.Reading.{plus}
use Rattle.directory_links.proofs.parts.length_in_quotes.Given as goal

-- The bytes so far are within the quoted string.
abbrev pub invariant-loop-i : goal.invariant-loop-i
invariant-loop-i l = plus l.i (quoted_length l.escaped (drop l.i l.text)) ≡ quoted_length false l.text
