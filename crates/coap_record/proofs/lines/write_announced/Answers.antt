use Rattle.std.proofs.Common.{append_assoc}
use Rattle.coap_record.proofs.WriteLemmas.{text_is}
use Rattle.coap_record.proofs.lines.write_announced.Goals as goal

pub returns-clause-text : goal.returns-clause-text
returns-clause-text g c =
    text_is _ _ _ _ c.write_pieces.result
    (rw (
      c.as_slice.ensures.value,
      c.as_slice-2.ensures.value,
      c.decimal_digits-id.ensures,
      c.decimal_digits-size.ensures,
      c.from.ensures,
    ) (simp append_assoc))
    c.write_pieces.ensures.text
