-- Lines offered to a writer, one after another.
use Rattle.std.proofs.Common.{◌≡◌, ℕ, List, [], ◌∷◌, ◌++◌, Option, Some, refl, ap, ◌∙◌}
use Rattle.std.specs.List.{flat_map}
use Rattle.std.proofs.lemmas.Grind.{flat_map-append}
use Rattle.coap_io.proofs.streams.DeviceLemmas.{bytes_then, calls_then}
use Rattle.coap_log.specs.Writers.{Offer, AddsOffers, bytes_of}
use Rattle.coap_log.specs.Logs.{IsDated, IsOffered, IsReported, report_text, limit_after}
use Rattle.coap_log.specs.declared.limit.LineLimit.{LineLimit}
use Rattle.coap_log.specs.declared.limit.Admission.{Admission}
use Rattle.coap_log.specs.declared.limit.Admission.TheVariants.{AfterReport}

-- Lines are offered, followed by others.
pub offers_then : (a b c : Option (List Offer)) (x y z : Option (List ℕ)) (ps qs : List Offer) → AddsOffers a b x y ps
    → AddsOffers b c y z qs → AddsOffers a c x z (ps ++ qs)
offers_then a b c x y z ps qs first second = (
  calls_then a b c ps qs first.0 second.0,
  rw (flat_map-append bytes_of ps qs)
      (bytes_then x y z (flat_map bytes_of ps) (flat_map bytes_of qs) first.1 second.1),
)

-- A report, followed by a line.
pub report_and_line : (program : List ℕ) (nanos : ℕ) (text : List ℕ) (a : Admission) (count : ℕ)
    (before middle after : LineLimit) (report line : Offer) → a ≡ AfterReport count
    → IsDated program nanos (report_text count) report.line → IsDated program nanos text line.line
    → middle ≡ limit_after count report.accepted before
    → after ≡ limit_after 1 line.accepted middle → IsOffered program nanos text a before after (report ∷ line ∷ [])
report_and_line program nanos text a count before middle after report line is first second middle_is after_is =
    rw is (report, line, first, second, refl, after_is ∙ ap (limit_after 1 line.accepted) middle_is)

-- A report alone.
pub report_alone : (program : List ℕ) (nanos : ℕ) (due : Option ℕ) (count : ℕ) (before after : LineLimit)
    (report : Offer) → due ≡ Some count
    → IsDated program nanos (report_text count) report.line → after ≡ limit_after count report.accepted before
    → IsReported program nanos due before after (report ∷ [])
report_alone program nanos due count before after report is dated after_is =
    rw is (report, dated, refl, after_is)
