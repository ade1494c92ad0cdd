use Rattle.coap_log.proofs.WriterLemmas.{pushed_more, pushed_some, pushed_within, adds_one, refused_last}
use Rattle.coap_log.proofs.writer.push.Goals as goal

pub write-count-requires : goal.write-count-requires
write-count-requires g c = pushed_some c.args.bytes.now c.loop-done.done c.loop-done-test.true

pub loop-done-preserved : goal.loop-done-preserved
loop-done-preserved g c = record {
  within =
      pushed_within c.args.bytes.now c.loop-done.done c.write-count.result c.loop-done.invariant.within
      c.write-count.ensures.within;
  written =
      pushed_more _ _ _ c.args.bytes.now c.loop-done.done c.write-count.result c.loop-done.invariant.written
      c.write-count.ensures.wrote;
  answered = adds_one _ _ _ c.write-count.result c.loop-done.invariant.answered c.write-count.ensures.answered;
}

pub returns-then-count-eq0-clause-works : goal.returns-then-count-eq0-clause-works
returns-then-count-eq0-clause-works g c =
    refused_last _ _ _ c.write-count.result _ c.loop-done.invariant.answered c.write-count.ensures.answered
    c.if-count-eq0.true
