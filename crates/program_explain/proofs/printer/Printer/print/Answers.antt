use Rattle.coap_record.proofs.WriteLemmas.{text_of_all}
use Rattle.program_explain.proofs.ShownLemmas.{line_shown}
use Rattle.program_explain.proofs.printer.Printer.print.Goals as goal

pub returns-clause-shown : goal.returns-clause-shown
returns-clause-shown g c =
    line_shown _ _ c.as_bytes.result.now c.write_parts.result
    (rw c.as_bytes.ensures.bytes c.as_bytes.ensures.line.printable)
    (text_of_all _ _ _ c.write_parts.result c.write_parts.ensures.ok c.write_parts.ensures.part)
