use Rattle.std.proofs.Common.{refl, arith}
use Rattle.coap_serve.proofs.listener.ServingLemmas.{none_given, one_more_given, no_more_given}
use Rattle.coap_serve.proofs.listener.SleepLemmas.{sleep_same, sleep_then}
use Rattle.coap_serve.proofs.door.parts.answer_each.Goals as goal

pub loop-count-init : goal.loop-count-init
loop-count-init g c = record {
  given = none_given;
  capacity = omega arith;
  kept = sleep_same;
}

pub loop-count-preserved : goal.loop-count-preserved
loop-count-preserved g c =
    let one = c.if-not-answer_once.ensures in
    let so_far = c.loop-count.invariant in
    record {
      given = one_more_given one.requested.0 so_far.given one.requested.1 one.requested.2 refl;
      capacity = omega (arith, so_far.capacity, one.capacity);
      kept = sleep_then so_far.kept one.kept;
    }

pub returns-then-not-answer_once-clause-shows : goal.returns-then-not-answer_once-clause-shows
returns-then-not-answer_once-clause-shows g c =
    let one = c.if-not-answer_once.ensures in
    no_more_given _ _ one.requested.0 c.loop-count.invariant.given one.requested.1 one.requested.2 refl
    (omega (arith, c.loop-count-test.true))

pub returns-then-not-answer_once-clause-kept : goal.returns-then-not-answer_once-clause-kept
returns-then-not-answer_once-clause-kept g c = sleep_then c.loop-count.invariant.kept c.if-not-answer_once.ensures.kept
