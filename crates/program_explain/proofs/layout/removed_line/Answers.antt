use Rattle.coap_print.proofs.LineLaws.{appended_then}
use Rattle.program_explain.proofs.layout.removed_line.Goals as goal

pub returns : goal.returns
returns c = rw (c.escaped.ensures, c.text.ensures, c.new-line.ensures) (simp appended_then)
