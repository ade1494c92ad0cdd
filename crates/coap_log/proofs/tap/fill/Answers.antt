use Rattle.std.proofs.Common.{ℕ, ◌-◌, min, length, arith, ap, ◌∙◌}
use Rattle.coap_log.proofs.TapLemmas.{filled_count}
use Rattle.coap_log.proofs.tap.fill.Goals as goal

pub returns : goal.returns
returns c =
    c.in-Ok.ensures.ok
    ∙ filled_count 8 c.min-count.result c.args.head.now.items c.args.bytes.now
    (omega (arith, c.len.ensures.fits, c.len.ensures.value))
    (c.min-count.ensures ∙ ap (λ (n : ℕ). min (length c.args.bytes.now) (8 - n)) c.len.ensures.value)
