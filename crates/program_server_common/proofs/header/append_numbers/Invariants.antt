-- The rows that are left complete the text.
use Rattle.std.proofs.Common.{◌≡◌, ◌++◌, true, length}
use Rattle.coap_print.specs.Texts.{is_text}
use Rattle.program_server_common.specs.RecordHeaders.{numbers_text, words_are_text}
use Rattle.program_server_common.proofs.header.append_numbers.Given as goal

abbrev pub invariant-loop-rows : goal.invariant-loop-rows
invariant-loop-rows l = record {
  text : l.text.items ++ numbers_text l.rows ≡ l.fn.text.items ++ numbers_text l.fn.rows;
  words : words_are_text l.rows ≡ true;
  printable : is_text l.text.items ≡ true;
}

abbrev pub decreases-loop-rows : goal.decreases-loop-rows
decreases-loop-rows l = length l.rows
