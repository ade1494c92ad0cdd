use Rattle.coap_io.proofs.streams.WriteLemmas.{part_before, part_after, on_any_fault}
use Rattle.coap_io.proofs.output.write_parts.Goals as goal

pub returns-in_err-write_all-clause-part : goal.returns-in_err-write_all-clause-part
returns-in_err-write_all-clause-part g c =
    on_any_fault _ _ (part_before _ _ c.args.first.now c.args.second.now c.in_err-write_all.ensures.part)

pub returns-in_err-write_all-2-clause-part : goal.returns-in_err-write_all-2-clause-part
returns-in_err-write_all-2-clause-part g c =
    on_any_fault _ _
    (part_after _ _ _ c.args.first.now c.args.second.now c.in_ok-write_all.ensures.ok c.in_err-write_all-2.ensures.part)
