use Rattle.std.proofs.Common.{◌≡◌, take}
use Rattle.coap_print.specs.Texts.{hex_text}
use Rattle.coap_print.specs.Lines.{appended}
use Rattle.coap_print.specs.declared.line.TheConstants.{LINE_LENGTH}
use Rattle.coap_print.proofs.line.Line.hex.Given as goal

abbrev pub invariant-loop-byte : goal.invariant-loop-byte
invariant-loop-byte l = l.self ≡ appended LINE_LENGTH l.fn.self (hex_text (take l.byte-index l.bytes))
