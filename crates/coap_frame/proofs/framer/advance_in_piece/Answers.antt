use Rattle.std.proofs.Common.{length, refl, ap, arith}
use Rattle.coap_wire.proofs.StreamSteps.{unfinished_below}
use Rattle.coap_frame.proofs.FramingLemmas.{framing_unfinished, framing_whole, framing_fault, alone_more, alone_frame}
use Rattle.coap_frame.proofs.FramingLemmas.{alone_fault}
use Rattle.coap_frame.proofs.framer.advance_in_piece.Goals as goal

pub append-requires : goal.append-requires
append-requires c =
    let filled = rw c.in-Unfinished.is at c.classify-taken.ensures in
    let below = unfinished_below c.args.max c.args.piece.now (omega (arith, c.requires.low)) filled.has_status.0 in
    omega (arith, below, c.requires.room, ap length c.requires.empty)

pub returns-in-Unfinished : goal.returns-in-Unfinished
returns-in-Unfinished c =
    let p = c.args.piece.now in
    let filled = rw c.in-Unfinished.is at c.classify-taken.ensures in
    let is = framing_unfinished c.args.max _ p _ _ filled in
    record {
      after =
          alone_more c.args.max c.args.copied.now _ p _ _ filled (rw (c.append.ensures.items, c.requires.empty) refl)
          c.saturating_add.ensures;
      taken = rw is refl;
      within = filled.within;
      layout = rw c.in-Unfinished.is tt;
      found = rw (c.in-Unfinished.is, is) refl;
      capacity = omega (arith, c.requires.room, c.append.ensures.capacity);
    }

pub returns-in-Whole : goal.returns-in-Whole
returns-in-Whole c =
    let p = c.args.piece.now in
    let filled = rw c.in-Whole.is at c.classify-taken.ensures in
    let is = framing_whole c.args.max _ p _ _ c.in-Whole.field-0 filled in
    record {
      after =
          rw c.requires.empty
          (alone_frame c.args.max c.args.copied.now _ p c.in-Whole.field-0 c.requires.countable filled);
      taken = rw is refl;
      within = filled.within;
      layout = rw c.in-Whole.is filled.has_status.3;
      found = rw (c.in-Whole.is, is) refl;
      capacity = c.requires.room;
    }

pub returns-in-Fault : goal.returns-in-Fault
returns-in-Fault c =
    let p = c.args.piece.now in
    let filled = rw c.in-Fault.is at c.classify-taken.ensures in
    let is = framing_fault c.args.max _ p _ _ c.in-Fault.field-0 filled in
    record {
      after =
          rw c.requires.empty
          (alone_fault c.args.max c.args.copied.now _ p c.in-Fault.field-0 c.requires.countable filled);
      taken = rw is refl;
      within = filled.within;
      layout = rw c.in-Fault.is tt;
      found = rw (c.in-Fault.is, is) refl;
      capacity = c.requires.room;
    }
