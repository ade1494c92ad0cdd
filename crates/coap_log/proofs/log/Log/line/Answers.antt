use Rattle.std.proofs.Common.{ℕ, List, [], ◌∷◌, sym, subst, ap, ◌∙◌}
use Rattle.std.specs.Duration.{as_nanos}
use Rattle.coap_log.specs.Limits.{admission, after_admission}
use Rattle.coap_log.specs.Logs.{IsDated, limit_after}
use Rattle.coap_log.proofs.LogLemmas.{offers_then, report_and_line}
use Rattle.coap_log.proofs.log.Log.line.Goals as goal

pub returns-in-AfterReport-clause-on : goal.returns-in-AfterReport-clause-on
returns-in-AfterReport-clause-on g c on =
    let report = c.offer_report.ensures.offered in
    let line = c.offer-in-AfterReport.ensures.offered in
    let limit = c.args.self.now.limit in
    let count = c.in-AfterReport.count in
    let nanos = as_nanos c.args.now in (
      report.0 ∷ line.0 ∷ [],
      report_and_line c.args.self.now.program nanos c.args.text.now _ count _
          c.offer_report.new.self.limit _ report.0 line.0
          (ap (admission limit) (sym c.as_secs.ensures) ∙ sym c.admit.ensures.answer ∙ c.in-AfterReport.is)
          report.1
          (subst (λ (p : List ℕ). IsDated p nanos c.args.text.now line.0.line) c.offer_report.ensures.program line.1)
          (report.2 ∙ ap (limit_after count report.0.accepted)
          (c.admit.ensures.after ∙ ap (after_admission limit) c.as_secs.ensures))
          line.2,
      offers_then _ _ _ _ _ _ (report.0 ∷ []) (line.0 ∷ []) report.3 line.3,
    )
