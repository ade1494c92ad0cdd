use Rattle.std.proofs.Common.{◌≡◌, arith, ℕ, ◌≤◌, ◌<◌}
use Rattle.directory_registry.specs.Prelude.{counted, criteria_of, registration_of, ListingValue}
use Rattle.directory_registry.specs.declared.registration.Stored.{Stored}
use Rattle.directory_registry.proofs.EntryLemmas.{each_map, ascends_from}
use Rattle.directory_registry.proofs.CandidateLemmas.{from_zero, found_unmet, next_visited, none_visited}
use Rattle.directory_registry.proofs.offers.offer_candidates.Goals as goal

pub loop-number-init : goal.loop-number-init
loop-number-init c = record { within = omega arith; so_far = rw from_zero }

pub loop-number-preserved : goal.loop-number-preserved
loop-number-preserved c =
    let found = c.in-Some.ensures in
    let cs = criteria_of c.args.criteria.now in
    let nothing = each_map _ (λ (e : ℕ × Stored). c.loop-number.from ≤ e.0 → e.0 < c.in-Some.number
    → (w : ListingValue) → counted c.args.endpoints cs w (registration_of e.1.registration) ≡ w)
    (λ e f from less. found_unmet c.args.endpoints cs _ _ _ e c.label_of_name-label.ensures.value c.requires.requested f
    (found.0 e.0 from less).0 (found.0 e.0 from less).1)
    _ c.requires.labelled in
    record {
      within = omega (arith, c.from-from.ensures, found.1);
      so_far =
          rw (
            c.from-from.ensures,
            c.offer_at.ensures,
            ← next_visited (λ w s. counted c.args.endpoints cs w (registration_of s.registration)) _ _ found.1.0 _
                (ascends_from _ c.requires.ordered) nothing c.loop-number.listing,
          ) c.loop-number.invariant.so_far;
    }

pub returns : goal.returns
returns c =
    let before = c.in_default.ensures.0 in
    let cs = criteria_of c.args.criteria.now in
    let nothing = each_map _ (λ (e : ℕ × Stored). c.loop-number.from ≤ e.0 → (w : ListingValue)
    → counted c.args.endpoints cs w (registration_of e.1.registration) ≡ w)
    (λ e f from. found_unmet c.args.endpoints cs _ _ _ e c.label_of_name-label.ensures.value c.requires.requested f
    (before e.0 from f.small).0 (before e.0 from f.small).1)
    _ c.requires.labelled in
    rw (none_visited (λ w s. counted c.args.endpoints cs w (registration_of s.registration)) _ _ nothing _) at
    c.loop-number.invariant.so_far
