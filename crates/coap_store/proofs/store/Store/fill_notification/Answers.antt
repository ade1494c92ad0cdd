use Rattle.std.proofs.Common.{arith, refl, ◌≡◌}
use Rattle.coap_store.specs.Prelude.{notification_at, found_value, says, notification_of}
use Rattle.coap_store.proofs.StateLemmas.{state_by_key}
use Rattle.coap_store.proofs.NotificationLaws.{notification_short, notification_located}
use Rattle.coap_store.proofs.store.Store.fill_notification.Goals as goal

reported : (c : goal.After-content)
    → c.content.new.self ≡ says (notification_of c.args.self.now c.args.now c.args.observed.path.now c.args.format)
unfolding notification_at
reported c =
    let etag = c.etag_for-etag.ensures (found_value c.in-Some.found) refl in
    grind (arith, state_by_key)

pub returns-clause-reported : goal.returns-clause-reported
returns-clause-reported c = reported c

pub returns-clause-short : goal.returns-clause-short
returns-clause-short c =
    rw (reported c) (grind (arith, notification_short, c.is_kept.ensures.listed))

pub returns-clause-located : goal.returns-clause-located
returns-clause-located c = rw (reported c) (notification_located _ _ _)
