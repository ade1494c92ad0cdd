use Rattle.std.proofs.Common.{append_assoc}
use Rattle.coap_print.proofs.LineLaws.{appended_then}
use Rattle.program_explain.proofs.layout.stored_line.Goals as goal

pub returns : goal.returns
returns c =
    rw (c.describe_representation.ensures, c.escaped.ensures, c.text.ensures, c.new-line.ensures)
    (simp (appended_then, append_assoc))
