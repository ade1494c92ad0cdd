use Rattle.std.proofs.Common.{append_assoc}
use Rattle.coap_print.proofs.LineLaws.{appended_then}
use Rattle.program_explain.proofs.layout.accepted_line.Goals as goal

pub returns : goal.returns
returns c =
    rw (
      c.number-2.ensures,
      c.text-2.ensures,
      c.number.ensures,
      c.text.ensures,
      c.append_way.ensures,
      c.new-line.ensures,
    ) (simp (appended_then, append_assoc))
