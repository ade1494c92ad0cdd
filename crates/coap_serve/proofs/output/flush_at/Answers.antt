use Rattle.std.proofs.Common.{◌+◌, refl, arith}
use Rattle.coap_io.proofs.streams.WriteLemmas.{on_any_fault}
use Rattle.coap_serve.proofs.streams.FlushLemmas.{report_begins, report_more, report_goes_on, report_cut, report_stops}
use Rattle.coap_serve.proofs.streams.FlushLemmas.{report_ends}
use Rattle.coap_serve.proofs.output.flush_at.Goals as goal

pub returns-in_err-first-clause-part : goal.returns-in_err-first-clause-part
returns-in_err-first-clause-part g c =
    on_any_fault c.from_residual.result _ (rw c.in_err-first.ensures.unreported
    (report_cut _ report_begins (omega arith) c.in_err-first.ensures.part))

pub loop-init : goal.loop-init
loop-init g c = record {
  flushing =
      report_more _ _ _ 1 _ report_begins (omega arith) refl c.in_ok-first.ensures.ok c.in_ok-first.ensures.reported;
  stop = c.in_ok-first.ensures.stop;
  works = c.in_ok-first.ensures.failure;
  lies = c.in_ok-first.ensures.lies;
}

pub returns-in_err-last-clause-part : goal.returns-in_err-last-clause-part
returns-in_err-last-clause-part g c =
    let so_far = report_goes_on c.loop.last.waited c.if-not-last.false c.loop.invariant.flushing in
    on_any_fault c.from_residual-in_err-last.result _ (rw c.in_err-last.ensures.unreported (report_cut _ so_far
    (omega (arith, c.in_ok-first.ensures.more, c.loop-test.true)) c.in_err-last.ensures.part))

pub loop-preserved : goal.loop-preserved
loop-preserved g c =
    let so_far = report_goes_on _ c.if-not-last.false c.loop.invariant.flushing in
    record {
      flushing =
          report_more _ _ _ _ _ so_far
          (omega (arith, c.in_ok-first.ensures.more, c.loop-test.true)) (omega arith) c.in_ok-last.ensures.ok
          c.in_ok-last.ensures.reported;
      stop = c.in_ok-last.ensures.stop;
      works = c.in_ok-last.ensures.failure;
      lies = c.in_ok-last.ensures.lies;
    }

pub returns-then-not-last-clause-ok : goal.returns-then-not-last-clause-ok
returns-then-not-last-clause-ok g c =
    report_stops (c.loop.counter + 1) _ _ _ _ _ c.if-not-last.true c.loop.invariant.flushing

pub returns-clause-ok : goal.returns-clause-ok
returns-clause-ok g c =
    report_ends (c.loop.counter + 1) _ _ _ _ _
    (omega (arith, c.in_ok-first.ensures.more, c.loop-test.false, c.loop.auto.counter-end)) c.loop.invariant.flushing
