use Rattle.std.proofs.Common.{append_assoc, ◌∙◌, ◌++◌, codes, decimal}
use Rattle.coap_io.proofs.streams.DeviceLemmas.{bytes_none, bytes_then}
use Rattle.coap_record.specs.Prelude.{encode_lower}
use Rattle.coap_record.proofs.WriteLemmas.{text_then, text_of_all, fault_first, fault_then, took_none, took_some}
use Rattle.coap_record.proofs.lines.write_took.Goals as goal

pub returns-then-is_empty-clause-text : goal.returns-then-is_empty-clause-text
returns-then-is_empty-clause-text g c = rw (took_none _ _ c.if-is_empty.ensures) (bytes_none _)

pub returns-in_err-write_pieces-clause-text : goal.returns-in_err-write_pieces-clause-text
returns-in_err-write_pieces-clause-text g c =
    fault_first _ _ _ (encode_lower c.args.bytes.now ++ codes "\n") _ _ c.from_residual.ensures.0
    (rw (c.as_slice.ensures.value, c.decimal_digits-id.ensures)
    (took_some c.args.id c.args.bytes.now c.if-is_empty.ensures
    ∙ append_assoc (codes "in " ++ (decimal c.args.id ++ codes " ")) (encode_lower c.args.bytes.now) (codes "\n")))
    c.in_err-write_pieces.ensures.text

pub returns-in_err-write_hex-clause-text : goal.returns-in_err-write_hex-clause-text
returns-in_err-write_hex-clause-text g c =
    fault_then _ _ _ _ _ (codes "\n") _ _ c.from_residual-in_err-write_hex.ensures.0
    (rw (c.as_slice.ensures.value, c.decimal_digits-id.ensures)
    (took_some _ _ c.if-is_empty.ensures))
    c.in_ok-write_pieces.ensures.text c.in_err-write_hex.ensures.text

pub returns-clause-text : goal.returns-clause-text
returns-clause-text g c =
    text_then _ _ _ _ (codes "\n") _ c.write_all.result
    (rw (c.as_slice.ensures.value, c.decimal_digits-id.ensures)
    (took_some _ _ c.if-is_empty.ensures))
    (bytes_then _ _ _ _ _ c.in_ok-write_pieces.ensures.text c.in_ok-write_hex.ensures.text)
    (text_of_all _ _ _ c.write_all.result c.write_all.ensures.ok c.write_all.ensures.part)
