use Rattle.std.proofs.Common.{ℕ, ◌/◌, [], ◌∷◌, get_or, sym, ap, ◌∙◌}
use Rattle.coap_print.specs.Lines.{appended}
use Rattle.coap_print.specs.Texts.{hex_digit, hex_of_byte}
use Rattle.coap_print.specs.declared.line.TheConstants.{LINE_LENGTH}
use Rattle.coap_print.proofs.LineLaws.{appended_nothing, one_more}
use Rattle.coap_print.proofs.line.Line.hex.Goals as goal

pub loop-byte-init : goal.loop-byte-init
loop-byte-init c = sym (appended_nothing LINE_LENGTH c.args.self.now)

pub loop-byte-preserved : goal.loop-byte-preserved
loop-byte-preserved c =
    let line = c.loop-byte.self in
    let high = hex_digit (get_or c.args.bytes.now c.loop-byte.byte-index 0 / 16) in
    one_more hex_of_byte LINE_LENGTH c.args.self.now line c.append.new.self c.args.bytes.now c.loop-byte.byte-index
    c.loop-byte-test.true c.loop-byte.invariant
    (c.append.ensures
    ∙ ap (λ (d : ℕ). appended LINE_LENGTH line (d ∷ c.digit-in-loop-byte.result ∷ [])) c.digit.ensures.value
    ∙ ap (λ (d : ℕ). appended LINE_LENGTH line (high ∷ d ∷ [])) c.digit-in-loop-byte.ensures.value)
