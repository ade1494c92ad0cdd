use Rattle.std.proofs.Common.{sym, arith}
use Rattle.std.proofs.lemmas.List.{take_all, length-take-le}
use Rattle.coap_print.proofs.description.first_bytes.Goals as goal

pub slice_bounds-result-end : goal.slice_bounds-result-end
slice_bounds-result-end c = sym (length-take-le 64 c.args.payload.now (omega arith))

pub returns-then-payload-le-MOST_SHOWN : goal.returns-then-payload-le-MOST_SHOWN
returns-then-payload-le-MOST_SHOWN c = sym (take_all 64 c.args.payload.now (omega arith))
