use Rattle.std.proofs.Common.{[], ◌∷◌, sym, ap, ◌∙◌}
use Rattle.coap_log.specs.Limits.{last_report, after_end}
use Rattle.coap_log.specs.Logs.{limit_after}
use Rattle.coap_log.proofs.LogLemmas.{offers_then, report_alone}
use Rattle.coap_log.proofs.WriterLemmas.{refused_second}
use Rattle.coap_log.proofs.log.Log.end.Goals as goal

pub returns-in-Some-clause-reported : goal.returns-in-Some-clause-reported
returns-in-Some-clause-reported g c =
    let first = c.offer_report.ensures.offered in
    let limit = c.args.self.now.limit in
    let count = c.in-Some.count in (
      first.0 ∷ [],
      report_alone _ _ _ count _ _ first.0
          (ap (last_report limit) (sym c.as_secs.ensures) ∙ sym c.end.ensures.answer ∙ c.in-Some.is)
          first.1
          (first.2
          ∙ ap (limit_after count first.0.accepted) (c.end.ensures.after ∙ ap (after_end limit) c.as_secs.ensures)),
      offers_then _ _ _ _ _ _ [] (first.0 ∷ []) (c.flush.ensures.offered, c.flush.ensures.bytes) first.3,
    )

pub returns-in-Some-clause-flushed : goal.returns-in-Some-clause-flushed
returns-in-Some-clause-flushed g c =
    refused_second _ _ _ _ _ _ c.flush.ensures.works c.offer_report.ensures.flushed (λ left. left)
