use Rattle.std.proofs.Common.{sym, ◌∙◌}
use Rattle.coap_model.specs.world.Events.{Opened}
use Rattle.coap_record.proofs.RecordLemmas.{record_goes_on}
use Rattle.coap_record.proofs.recorder.Recorder.record_opened.Goals as goal

-- The line of a call of `open` is the same for each connection.
pub returns-clause-follows : goal.returns-clause-follows
returns-clause-follows g c = λ header calls so_far.
    let written = c.write_opened.ensures in
    record_goes_on header calls (Opened c.args.id) _ _ _ _ _ _ c.write_opened.result
    (sym c.has_ended.ensures ∙ c.if-has_ended.false) (c.read_opened.ensures, tt)
    (written.text c.args.id) written.failure so_far
