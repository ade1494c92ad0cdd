use Rattle.std.proofs.Common.{sym}
use Rattle.coap_print.specs.Texts.{escape_of}
use Rattle.coap_print.specs.declared.line.TheConstants.{LINE_LENGTH}
use Rattle.coap_print.proofs.LineLaws.{appended_nothing, one_more}
use Rattle.coap_print.proofs.line.Line.escaped.Goals as goal

pub loop-byte-init : goal.loop-byte-init
loop-byte-init c = sym (appended_nothing LINE_LENGTH c.args.self.now)

pub loop-byte-preserved : goal.loop-byte-preserved
loop-byte-preserved c =
    one_more escape_of LINE_LENGTH c.args.self.now c.loop-byte.self c.escape.new.self c.args.bytes.now
    c.loop-byte.byte-index c.loop-byte-test.true c.loop-byte.invariant c.escape.ensures
