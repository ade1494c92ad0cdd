use Rattle.std.proofs.Common.{sym}
use Rattle.coap_wire.proofs.OptionLists.{ordered_at, form_at, last_number_more, room_for, appended_more, room_more}
use Rattle.coap_wire.proofs.encode.write_options.Goals as goal

pub write_option-requires-clause-ordered : goal.write_option-requires-clause-ordered
write_option-requires-clause-ordered g c =
    rw c.loop-option.invariant.base
    (ordered_at 0 c.args.options.now c.loop-option.option-index _ c.requires.ordered c.loop-option-test.true)

pub write_option-requires-clause-short : goal.write_option-requires-clause-short
write_option-requires-clause-short g c =
    (form_at c.args.options.now c.loop-option.option-index _ c.requires.each c.loop-option-test.true).1

pub write_option-requires-clause-room : goal.write_option-requires-clause-room
write_option-requires-clause-room g c =
    room_for c.args.options.now c.loop-option.option-index c.loop-option.base _ _ _ c.loop-option-test.true
    c.loop-option.invariant.base c.loop-option.invariant.room c.requires.room

pub loop-option-preserved : goal.loop-option-preserved
loop-option-preserved g c =
    let xs = c.args.options.now in
    let i = c.loop-option.option-index in
    let lt = c.loop-option-test.true in
    record {
      appended =
          appended_more xs i c.loop-option.base _ _ _ _ lt c.loop-option.invariant.base c.loop-option.invariant.appended
          c.write_option.ensures.appended;
      room =
          room_more xs i c.loop-option.base _ _ _ _ lt c.loop-option.invariant.base c.loop-option.invariant.room
          c.write_option.ensures.less_room;
      base = sym (last_number_more 0 xs i _ lt);
    }
