use Rattle.std.proofs.Common.{refl, append_assoc, ◌++◌, codes}
use Rattle.coap_io.proofs.streams.DeviceLemmas.{bytes_then}
use Rattle.coap_record.specs.Prelude.{path_word}
use Rattle.coap_record.proofs.WriteLemmas.{text_then, text_of_all, fault_first, fault_then}
use Rattle.coap_record.proofs.lines.write_removed.Goals as goal

pub returns-in_err-write_all-clause-text : goal.returns-in_err-write_all-clause-text
returns-in_err-write_all-clause-text g c =
    fault_first _ _ (codes "remove ") (path_word c.args.path.now ++ codes "\n") _ _ c.from_residual.ensures.0
    (append_assoc (codes "remove ") (path_word c.args.path.now) (codes "\n")) c.in_err-write_all.ensures.part

pub returns-in_err-write_path-clause-text : goal.returns-in_err-write_path-clause-text
returns-in_err-write_path-clause-text g c =
    fault_then _ _ _ (codes "remove ") (path_word c.args.path.now) (codes "\n") _ _
    c.from_residual-in_err-write_path.ensures.0 refl
    c.in_ok-write_all.ensures.ok c.in_err-write_path.ensures.text

pub returns-clause-text : goal.returns-clause-text
returns-clause-text g c =
    text_then _ _ _ (codes "remove " ++ path_word c.args.path.now) (codes "\n") _ c.write_all-2.result refl
    (bytes_then _ _ _ (codes "remove ") (path_word c.args.path.now) c.in_ok-write_all.ensures.ok
    c.in_ok-write_path.ensures.text)
    (text_of_all _ _ _ c.write_all-2.result c.write_all-2.ensures.ok c.write_all-2.ensures.part)
