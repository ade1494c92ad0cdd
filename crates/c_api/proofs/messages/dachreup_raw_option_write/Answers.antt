use Rattle.std.proofs.Common.{◌+◌, ◌≤◌, length, arith, ap, refl, ◌∙◌}
use Rattle.std.proofs.lemmas.List.{length-append}
use Rattle.c_api.specs.Messages.{option_bytes}
use Rattle.c_api.proofs.WritingLemmas.{append_none, append_full, appended, head_then_value, holds_front, holds_more}
use Rattle.c_api.proofs.messages.dachreup_raw_option_write.Goals as goal

pub returns-then-saturating_sub-len : goal.returns-then-saturating_sub-len
returns-then-saturating_sub-len c =
    let value = c.args.value.now in
    let head = c.write_option_head.new.out.items in
    let spelled = head_then_value c.args.last.now c.in-Ok.next c.args.number value _ head c.new-head.ensures
    c.write_option_head.ensures.appended c.in-Ok.ensures.1 in
    rw (append_full (length c.args.options.now) c.args.length.now c.args.last.now c.args.number value
    c.in-Ok.ensures.0 c.if-number-last.false c.if-value-gt-MAX_EXTENDED_LENGTH.false
    (omega (arith, ap length spelled, length-append head value))) (refl, refl)

pub returns : goal.returns
returns c =
    let number = c.args.number in
    let value = c.args.value.now in
    let last = c.args.last.now in
    let count = c.args.length.now in
    let bytes = c.args.options.now in
    let head = c.deref.result.now in
    let spelled = head_then_value last c.in-Ok.next number value _ head c.new-head.ensures
    (c.deref.ensures.0 ∙ c.write_option_head.ensures.appended) c.in-Ok.ensures.1 in
    let space : count + length (option_bytes last number value) ≤ length bytes =
    omega (arith, ap length c.deref.ensures.0, ap length spelled, length-append head value) in
    let within : count ≤ length bytes = omega arith in
    let one = holds_more head (holds_front bytes count within) c.put-at.ensures.after c.put-at.ensures.written in
    let two = holds_more value one c.put.ensures.after c.put.ensures.written in
    let done = appended bytes head value (option_bytes last number value) _ count _ within spelled two in
    rw (append_none (length bytes) count last number value c.in-Ok.ensures.0 c.if-number-last.false
    c.if-value-gt-MAX_EXTENDED_LENGTH.false space) (refl, (done.0, (refl, done.1)))
