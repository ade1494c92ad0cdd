use Rattle.std.proofs.Common.{append_assoc, ◌++◌, codes, ◌∙◌}
use Rattle.coap_io.proofs.streams.DeviceLemmas.{bytes_then}
use Rattle.coap_record.specs.Prelude.{path_word, format_word, bytes_text}
use Rattle.coap_record.proofs.WriteLemmas.{text_then, text_of_all, fault_first, fault_then, stored_parts}
use Rattle.coap_record.proofs.lines.write_stored.Goals as goal

pub returns-in_err-write_all-clause-text : goal.returns-in_err-write_all-clause-text
returns-in_err-write_all-clause-text g c =
    let last = codes " " ++ format_word c.args.format ++ codes " " ++ bytes_text c.args.bytes.now ++ codes "\n" in
    fault_first _ _ (codes "put ") (path_word c.args.path.now ++ last) _ _ c.from_residual.ensures.0
    (simp append_assoc) c.in_err-write_all.ensures.part

pub returns-in_err-write_path-clause-text : goal.returns-in_err-write_path-clause-text
returns-in_err-write_path-clause-text g c =
    let last = codes " " ++ format_word c.args.format ++ codes " " ++ bytes_text c.args.bytes.now ++ codes "\n" in
    fault_then _ _ _ (codes "put ") (path_word c.args.path.now) last _ _ c.from_residual-in_err-write_path.ensures.0
    (simp append_assoc) c.in_ok-write_all.ensures.ok c.in_err-write_path.ensures.text

pub returns-in_err-write_pieces-clause-text : goal.returns-in_err-write_pieces-clause-text
returns-in_err-write_pieces-clause-text g c =
    fault_then _ _ _ (codes "put " ++ path_word c.args.path.now) _ (bytes_text c.args.bytes.now ++ codes "\n") _ _
    c.from_residual-in_err-write_pieces.ensures.0
    (rw (c.as_slice.ensures.value, c.format_word-format.ensures)
    (stored_parts c.args.path.now c.args.format c.args.bytes.now ∙ append_assoc
    ((codes "put " ++ path_word c.args.path.now) ++ (codes " " ++ (format_word c.args.format ++ codes " ")))
    (bytes_text c.args.bytes.now) (codes "\n")))
    (bytes_then _ _ _ (codes "put ") (path_word c.args.path.now) c.in_ok-write_all.ensures.ok
    c.in_ok-write_path.ensures.text)
    c.in_err-write_pieces.ensures.text

pub returns-in_err-write_payload-clause-text : goal.returns-in_err-write_payload-clause-text
returns-in_err-write_payload-clause-text g c =
    fault_then _ _ _ _ (bytes_text c.args.bytes.now) (codes "\n") _ _ c.from_residual-in_err-write_payload.ensures.0
    (rw (c.as_slice.ensures.value, c.format_word-format.ensures)
    (stored_parts c.args.path.now c.args.format c.args.bytes.now))
    (bytes_then _ _ _ (codes "put " ++ path_word c.args.path.now) _
    (bytes_then _ _ _ (codes "put ") (path_word c.args.path.now) c.in_ok-write_all.ensures.ok
    c.in_ok-write_path.ensures.text) c.in_ok-write_pieces.ensures.text)
    c.in_err-write_payload.ensures.text

pub returns-clause-text : goal.returns-clause-text
returns-clause-text g c =
    text_then _ _ _ _ (codes "\n") _ c.write_all-2.result
    (rw (c.as_slice.ensures.value, c.format_word-format.ensures)
    (stored_parts c.args.path.now c.args.format c.args.bytes.now))
    (bytes_then _ _ _ _ (bytes_text c.args.bytes.now)
    (bytes_then _ _ _ (codes "put " ++ path_word c.args.path.now) _
    (bytes_then _ _ _ (codes "put ") (path_word c.args.path.now) c.in_ok-write_all.ensures.ok
    c.in_ok-write_path.ensures.text) c.in_ok-write_pieces.ensures.text)
    c.in_ok-write_payload.ensures.text)
    (text_of_all _ _ _ c.write_all-2.result c.write_all-2.ensures.ok c.write_all-2.ensures.part)
