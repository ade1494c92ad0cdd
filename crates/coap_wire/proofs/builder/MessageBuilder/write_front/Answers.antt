use Rattle.std.proofs.Common.{◌≤◌, length, append_assoc, arith}
use Rattle.coap_wire.specs.Prelude.{body_spelling, built_message, greatest_length}
use Rattle.coap_wire.proofs.SpellingLaws.{spelling_spells}
use Rattle.coap_wire.proofs.BuiltLemmas.{front_parts, front_then_payload, length-front}
use Rattle.coap_wire.proofs.builder.MessageBuilder.write_front.Goals as goal

pub write_head-requires-clause-room : goal.write_head-requires-clause-room
write_head-requires-clause-room g c =
    let room = rw (← c.self.view_is) at c.requires in
    rw (c.bytes.ensures.bytes, c.body_size.ensures.size, ← c.self.view_is)
    (omega (arith, room, length-front (built_message c.self.inside)))

pub write_options-requires-clause-room : goal.write_options-requires-clause-room
write_options-requires-clause-room g c =
    let room = rw (← c.self.view_is) at c.requires in
    let head =
    rw (c.bytes.ensures.bytes, c.body_size.ensures.size, ← c.self.view_is) at c.write_head.ensures.less_room in
    rw c.deref.ensures.0 (omega (arith, room, head, length-front (built_message c.self.inside)))

pub write_marker-requires : goal.write_marker-requires
write_marker-requires g c =
    let room = rw (← c.self.view_is) at c.requires in
    let head =
    rw (c.bytes.ensures.bytes, c.body_size.ensures.size, ← c.self.view_is) at c.write_head.ensures.less_room in
    let options = rw c.deref.ensures.0 at c.write_options.ensures.less_room in
    omega (arith, room, head, options, length-front (built_message c.self.inside))

pub returns-clause-less_room : goal.returns-clause-less_room
returns-clause-less_room g c =
    let head =
    rw (c.bytes.ensures.bytes, c.body_size.ensures.size, ← c.self.view_is) at c.write_head.ensures.less_room in
    let options = rw c.deref.ensures.0 at c.write_options.ensures.less_room in
    rw (← c.self.view_is)
    (omega (arith, head, options, c.write_marker.ensures.less_room, length-front (built_message c.self.inside)))

pub returns-clause-whole : goal.returns-clause-whole
returns-clause-whole g c = front_then_payload c.args.self.now

pub returns-clause-appended : goal.returns-clause-appended
returns-clause-appended g c =
    rw (
      c.write_marker.ensures.appended,
      c.write_options.ensures.appended,
      c.write_head.ensures.appended,
      c.deref.ensures.0,
      c.bytes.ensures.bytes,
      c.body_size.ensures.size,
      ← c.self.view_is,
      front_parts,
    ) (simp append_assoc)

pub returns-clause-spelled : goal.returns-clause-spelled
returns-clause-spelled g c =
    let small : length (body_spelling c.args.self.now) ≤ greatest_length =
    omega (arith, c.body_size.ensures.size, c.body_size.ensures.bound) in
    let can = c.body_size.ensures.spelled in
    spelling_spells c.args.self.now (record { token = can.token; ordered = can.ordered; each = can.each; body = small })
