-- Defined by this project: the model value and the invariant of the type `Tap`.
use Rattle.std.specs.Prelude.{◌≤◌}
use Rattle.std.specs.Vec.{vec_capacity}
use Rattle.coap_log.specs.Taps.{TapValue, IsTap}
use Rattle.coap_log.specs.declared.tap.Tap.TheInside.{Inside}

abbrev pub tap_value : Inside → TapValue
tap_value t = record {
  room = t.room;
  kept = t.kept.items;
  passed = t.passed;
  is_whole = t.is_whole;
  is_silent = t.is_silent;
  messages = t.messages;
  bytes = t.bytes;
}

abbrev pub is_tap : Inside → Type 0
is_tap t = IsTap (tap_value t) × (t.room ≤ vec_capacity t.kept)
