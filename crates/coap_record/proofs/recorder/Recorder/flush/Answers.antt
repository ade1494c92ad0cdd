use Rattle.std.proofs.Common.{◌≡◌, ◌∙◌, sym, false}
use Rattle.coap_record.proofs.RecordLemmas.{record_flushed}
use Rattle.coap_record.proofs.recorder.Recorder.flush.Goals as goal

pub returns-clause-follows : goal.returns-clause-follows
returns-clause-follows g c = λ header calls.
    let works : g.O.Outlet.is_failed c.args.self.now.outlet.outlet ≡ false = sym c.failed.ensures ∙ c.if-failed.false in
    rw c.flush.ensures.count (record_flushed header calls _ _ _ _ _ _ _ works c.flush.ensures.moved)
