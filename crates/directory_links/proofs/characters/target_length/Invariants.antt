use Rattle.std.proofs.Common.{◌≡◌, ◌+◌, drop}
use Rattle.std.specs.List.{prefix_len}
use Rattle.directory_links.specs.Prelude.{is_target_char}
use Rattle.directory_links.proofs.characters.target_length.Given as goal

-- The bytes so far pass the test.
abbrev pub invariant-loop-i : goal.invariant-loop-i
invariant-loop-i l = l.i + prefix_len is_target_char (drop l.i l.text) ≡ prefix_len is_target_char l.text
