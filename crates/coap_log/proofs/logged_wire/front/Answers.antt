use Rattle.std.proofs.Common.{List, ℕ, [], codes, ap, ◌∙◌}
use Rattle.std.specs.Prelude.{decimal}
use Rattle.coap_print.specs.Lines.{appended}
use Rattle.coap_print.specs.declared.line.TheConstants.{LINE_LENGTH}
use Rattle.coap_print.proofs.LineLaws.{joined}
use Rattle.coap_log.proofs.logged_wire.front.Goals as goal

pub returns : goal.returns
returns c =
    joined LINE_LENGTH [] c.text.new.self c.number.new.self (codes "connection ") (decimal c.args.number)
    (c.text.ensures ∙ ap (λ (l : List ℕ). appended LINE_LENGTH l (codes "connection ")) c.new-line.ensures)
    c.number.ensures
