use Rattle.std.proofs.Common.{refl, arith}
use Rattle.coap_frame.proofs.FramingLemmas.{framing_unfinished, framing_whole, framing_fault, rest_more, rest_frame}
use Rattle.coap_frame.proofs.FramingLemmas.{rest_is_faulty}
use Rattle.coap_frame.proofs.framer.advance_in_buffer.Goals as goal

pub returns-in-Unfinished : goal.returns-in-Unfinished
returns-in-Unfinished c =
    let filled = rw c.in-Unfinished.is at c.fill-taken.ensures.filled in
    let is = framing_unfinished c.args.max c.args.buffer.now.items c.args.piece.now _ _ filled in
    record {
      after = rest_more c.args.max c.args.copied.now _ _ _ _ _ c.requires.some c.saturating_add.ensures filled;
      taken = rw is refl;
      within = filled.within;
      layout = rw c.in-Unfinished.is tt;
      found = rw (c.in-Unfinished.is, is) refl;
      capacity = omega (arith, c.requires.room, c.fill-taken.ensures.capacity);
    }

pub returns-in-Whole : goal.returns-in-Whole
returns-in-Whole c =
    let filled = rw c.in-Whole.is at c.fill-taken.ensures.filled in
    let is = framing_whole c.args.max c.args.buffer.now.items c.args.piece.now _ _ c.in-Whole.field-0 filled in
    record {
      after =
          rest_frame c.args.max c.args.copied.now _ _ _ _ _ c.requires.some c.saturating_add.ensures
          c.in-Whole.field-0 filled;
      taken = rw is refl;
      within = filled.within;
      layout = rw c.in-Whole.is filled.has_status.3;
      found = rw (c.in-Whole.is, is) refl;
      capacity = omega (arith, c.requires.room, c.fill-taken.ensures.capacity);
    }

pub returns-in-Fault : goal.returns-in-Fault
returns-in-Fault c =
    let filled = rw c.in-Fault.is at c.fill-taken.ensures.filled in
    let is = framing_fault c.args.max c.args.buffer.now.items c.args.piece.now _ _ c.in-Fault.field-0 filled in
    record {
      after =
          rw c.clear.ensures.items (rest_is_faulty c.args.max c.args.copied.now _ _ _ _ _ c.requires.some
          c.saturating_add.ensures c.in-Fault.field-0 filled);
      taken = rw is refl;
      within = filled.within;
      layout = rw c.in-Fault.is tt;
      found = rw (c.in-Fault.is, is) refl;
      capacity = omega (arith, c.requires.room, c.fill-taken.ensures.capacity, c.clear.ensures.capacity);
    }
