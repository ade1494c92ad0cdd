use Rattle.coap_print.specs.declared.line.TheConstants.{LINE_LENGTH}
use Rattle.coap_print.proofs.LineLaws.{appended_line}
use Rattle.coap_print.proofs.line.Line.append.Goals as goal

pub invariant_of-self : goal.invariant_of-self
invariant_of-self c = rw c.append_piece.ensures (appended_line LINE_LENGTH _ _ c.self.invariant c.requires)
