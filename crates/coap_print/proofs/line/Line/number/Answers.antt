use Rattle.std.proofs.Common.{arith}
use Rattle.coap_print.proofs.TextLaws.{decimal_is_text}
use Rattle.coap_print.proofs.line.Line.number.Goals as goal

pub append-requires : goal.append-requires
append-requires c = rw (c.as_bytes.ensures.value, c.format.ensures.text) (decimal_is_text c.args.number (omega arith))
