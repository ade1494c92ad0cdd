use Rattle.std.proofs.Common.{◌≡◌, take}
use Rattle.coap_print.specs.Texts.{escaped_text}
use Rattle.coap_print.specs.Lines.{appended}
use Rattle.coap_print.specs.declared.line.TheConstants.{LINE_LENGTH}
use Rattle.coap_print.proofs.line.Line.escaped.Given as goal

abbrev pub invariant-loop-byte : goal.invariant-loop-byte
invariant-loop-byte l = l.self ≡ appended LINE_LENGTH l.fn.self (escaped_text (take l.byte-index l.bytes))
