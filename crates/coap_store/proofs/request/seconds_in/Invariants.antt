use Rattle.std.proofs.Common.{◌≡◌, ◌≤◌, true, take}
use Rattle.coap_store.specs.Prelude.{list_all, is_digit, digits_mean}
use Rattle.coap_store.proofs.request.seconds_in.Given as goal

-- The bytes so far are the digits of this number.
abbrev pub invariant-loop-byte : goal.invariant-loop-byte
invariant-loop-byte l = record {
  digits : list_all is_digit (take l.byte-index l.bytes) ≡ true;
  value : l.seconds ≡ digits_mean (take l.byte-index l.bytes);
  none : l.byte-index ≤ 0 → l.seconds ≤ 0;
  one : l.byte-index ≤ 1 → l.seconds ≤ 9;
  two : l.byte-index ≤ 2 → l.seconds ≤ 99;
  three : l.byte-index ≤ 3 → l.seconds ≤ 999;
}
