use Rattle.std.proofs.Common.{ℕ, Bool, Option, Some, ap, ◌∙◌}
use Rattle.jiff_fmt.specs.Text.{datetime_text}
use Rattle.coap_log.proofs.moment.text_of.Goals as goal

pub returns : goal.returns
returns c =
    c.datetime_text.ensures ∙ ap (λ (o : Bool × ℕ × Option ℕ). datetime_text o.0 o.1 o.2 c.args.moment)
    (c.precision.ensures ∙ ap (λ (o : Bool × ℕ × Option ℕ). (o.0, o.1, Some c.args.digits)) c.new.ensures)
