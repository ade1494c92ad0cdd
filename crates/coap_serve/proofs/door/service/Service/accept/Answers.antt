use Rattle.std.proofs.Common.{Some, None, refl, rules}
use Rattle.coap_serve.proofs.listener.SleepLemmas.{asleep_with_one, paired_with_one}
use Rattle.coap_serve.proofs.listener.ServingLemmas.{none_opened}
use Rattle.coap_serve.proofs.door.service.Service.accept.Goals as goal

pub invariant_of-self-2-clause-paired : goal.invariant_of-self-2-clause-paired
invariant_of-self-2-clause-paired g c =
    paired_with_one g.W.Ready.readable g.W.Ready.writable _ c.can_open.ensures.settled c.args.self.now.paired
    c.in-Ok-open.ensures.id c.in-Ok-open.ensures.ok c.in-Ok-open.ensures.lies
    (rw c.reserve.ensures.entries at c.in-Ok-insert.ensures.entries) c.in-Ok-insert.ensures.unique

pub returns-clause-asleep : goal.returns-clause-asleep
returns-clause-asleep g c =
    asleep_with_one _ _ _ c.can_open.ensures.settled c.args.self.now.paired
    c.in-Ok-open.ensures.id c.in-Ok-open.ensures.ok c.in-Ok-open.ensures.lies
    (rw c.reserve.ensures.entries at c.in-Ok-insert.ensures.entries) c.in-Ok-insert.ensures.unique
    (rw c.reserve.ensures.entries at c.len-at.ensures.len) c.wake.ensures.awake c.wake.ensures.asleep c.requires.asleep

pub returns-clause-opened : goal.returns-clause-opened
returns-clause-opened g c = record {
  handed = Some _;
  opened = record {
    peer = record { wire = _; rest = _; activity = _ };
    may = c.in-Ok-open.ensures.answer;
    server = c.in-Ok-open.ensures.ok;
    entries = rw (c.in-Ok-open.ensures.id, c.reserve.ensures.entries) at c.in-Ok-insert.ensures.entries;
    rest = c.in-Ok.ensures;
    handed = refl;
    activity = c.new-activity.ensures;
  };
  accepted = record {
    shows = rw c.in-Ok-open.ensures.id at c.in-Ok-open.ensures.shows;
    known = (rw c.in-Ok-open.ensures.id at c.opened.ensures, search rules);
  };
  is = refl;
}

-- No connection was opened.
pub returns-then-not-can_open-clause-opened : goal.returns-then-not-can_open-clause-opened
returns-then-not-can_open-clause-opened g c = record {
  handed = None;
  opened = (refl, refl);
  accepted = none_opened _ _ _ (search rules);
  is = refl;
}

pub returns-in_default-clause-opened : goal.returns-in_default-clause-opened
returns-in_default-clause-opened g c = record {
  handed = None;
  opened = (refl, refl);
  accepted = none_opened _ _ _ (search rules);
  is = refl;
}
