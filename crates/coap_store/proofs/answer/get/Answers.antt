use Rattle.std.proofs.Common.{arith, refl}
use Rattle.coap_store.specs.Prelude.{get_answer, found_value}
use Rattle.coap_store.proofs.answer.get.Goals as goal

pub returns-then-is_valid : goal.returns-then-is_valid
unfolding get_answer
returns-then-is_valid c =
    let etag = c.etag_for-etag.ensures (found_value c.args.found) refl in
    grind arith

pub returns-then-is_async-2 : goal.returns-then-is_async-2
unfolding get_answer
returns-then-is_async-2 c =
    let etag = c.etag_for-etag.ensures (found_value c.args.found) refl in
    grind arith

pub returns : goal.returns
unfolding get_answer
returns c =
    let etag = c.etag_for-etag.ensures (found_value c.args.found) refl in
    grind arith
