use Rattle.std.proofs.Common.{ℕ, List, length, drop, ◌≤◌, ap, ◌∙◌, sym, subst}
use Rattle.coap_log.proofs.WriterLemmas.{refused_first, refused_second, some_ended, some_dropped}
use Rattle.coap_log.proofs.writer.LineWriterLogWriter.write.Goals as goal

pub returns-then-count-eq0-clause-works : goal.returns-then-count-eq0-clause-works
returns-then-count-eq0-clause-works g c =
    refused_second _ _ _ _ _ _ c.flush.ensures.works c.push-count.ensures.works (λ refused. some_ended
    c.args.line.now c.as_slice.result.now c.push-count.result (c.as_slice.ensures.value ∙ c.ended-bytes.ensures)
    c.if-count-eq0.true)

pub returns-then-count-eq0-clause-whole : goal.returns-then-count-eq0-clause-whole
returns-then-count-eq0-clause-whole g c =
    refused_first _ _ _ _ _ _ c.flush.ensures.works c.push-count.ensures.works (λ left. left)

pub returns-clause-works : goal.returns-clause-works
returns-clause-works g c =
    refused_second _ _ _ _ _ _ c.flush.ensures.works c.push-count.ensures.works (λ refused. absurd cc)

pub returns-clause-whole : goal.returns-clause-whole
returns-clause-whole g c =
    refused_second _ _ _ _ _ _ c.flush.ensures.works c.push-count.ensures.works (λ left. some_dropped
    c.push-count.result c.as_slice.result.now
    (subst (λ (bytes : List ℕ). 1 ≤ length bytes) (c.rest_after-self.ensures ∙ ap (drop c.push-count.result)
    (c.as_slice-2.ensures.value ∙ sym c.as_slice.ensures.value)) left))
