use Rattle.std.proofs.Common.{◌≡◌, length, ◌-◌, ap, sym, ◌∙◌, arith, refl}
use Rattle.std.proofs.lemmas.List.{take_rest}
use Rattle.coap_frame.specs.Prelude.{declared_in}
use Rattle.coap_frame.proofs.FillLemmas.{size_above_filled, filled_bad_token, filled_too_large, filled_unknown}
use Rattle.coap_frame.proofs.FillLemmas.{filled_short, filled_whole}
use Rattle.coap_frame.proofs.filling.fill.Goals as goal

pub returns-then-size-max-clause-filled : goal.returns-then-size-max-clause-filled
returns-then-size-max-clause-filled c =
    filled_too_large c.args.max _ _ _ _ _ c.requires.unfinished c.fill_head-taken.ensures.head.taken_to c.in-Known.size
    (ap declared_in c.in-Known.is) c.if-size-max.true

pub overflow_sub-missing : goal.overflow_sub-missing
overflow_sub-missing c =
    let more = size_above_filled c.args.max _ _ _ _ _ c.requires.unfinished c.fill_head-taken.ensures.head.taken_to
    c.in-Known.size (ap declared_in c.in-Known.is) in
    omega (arith, more, c.len.ensures)

pub returns-then-rest-missing-clause-filled : goal.returns-then-rest-missing-clause-filled
returns-then-rest-missing-clause-filled c =
    let rest = take_rest c.args.piece.now c.fill_head-taken.result.0 in
    filled_short c.args.max _ _ _ _ _ c.requires.unfinished c.fill_head-taken.ensures.head.taken_to c.in-Known.size
    c.append.new.buffer.items (ap declared_in c.in-Known.is) c.if-size-max.false
    (omega (arith, c.if-rest-missing.true, ap length rest, c.len.ensures)) (rw (c.append.ensures.items, rest) refl)

pub returns-in-Unknown-clause-filled : goal.returns-in-Unknown-clause-filled
returns-in-Unknown-clause-filled c =
    filled_unknown c.args.max _ _ _ _ _ c.requires.unfinished c.fill_head-taken.ensures.head.taken_to
    (ap declared_in c.in-Unknown.is) (c.fill_head-taken.ensures.head.all (ap declared_in c.in-Unknown.is))

pub returns-in-BadToken-clause-filled : goal.returns-in-BadToken-clause-filled
returns-in-BadToken-clause-filled c =
    filled_bad_token c.args.max _ _ _ _ _ c.requires.unfinished c.fill_head-taken.ensures.head.taken_to
    (ap declared_in c.in-BadToken.is)

pub returns-else-rest-missing-clause-filled : goal.returns-else-rest-missing-clause-filled
returns-else-rest-missing-clause-filled c =
    let new = c.fill_head-taken.new.buffer.items in
    let rest = take_rest c.args.piece.now c.fill_head-taken.result.0 in
    let missing : c.in-Known.size - c.len.result ≡ c.in-Known.size - length new = omega (arith, c.len.ensures) in
    rw missing (filled_whole c.args.max _ _ _ _ _ c.requires.unfinished c.fill_head-taken.ensures.head.taken_to
    c.in-Known.size c.in-Known.layout c.append-in-Known.new.buffer.items (ap declared_in c.in-Known.is)
    (sym c.fill_head-taken.ensures.outline ∙ c.in-Known.is) c.if-size-max.false
    (omega (arith, c.if-rest-missing.false, ap length rest, missing))
    (rw (c.append-in-Known.ensures.items, rest, missing) refl))
