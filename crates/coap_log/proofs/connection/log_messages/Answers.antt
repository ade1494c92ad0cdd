use Rattle.coap_log.proofs.ConnectionLemmas.{starts, ends, ends_stuck, goes, some_left, none_left}
use Rattle.coap_log.proofs.connection.log_messages.Goals as goal

pub loop-left-init : goal.loop-left-init
loop-left-init g c = record { continues = starts _ _ _ _ _ _ }

pub loop-left-preserved : goal.loop-left-preserved
loop-left-preserved g c = record {
  continues =
      goes _ _ _ _ _ _ c.loop-left.left.now c.loop-left.tap c.take-taken.new.self _ _ c.take-taken.result
      c.loop-left.invariant.continues (some_left c.loop-left.left.now _ c.is_empty.ensures c.loop-left-test.true)
      c.take-taken.ensures.after c.take-taken.ensures.taken c.if-taken-eq0.false
      c.take-taken.ensures.within c.log_message.ensures;
}

pub returns-then-taken-eq0 : goal.returns-then-taken-eq0
returns-then-taken-eq0 g c =
    ends_stuck _ _ _ _ _ _ c.loop-left.left.now c.loop-left.tap c.take-taken.new.self _ c.take-taken.result
    c.loop-left.invariant.continues (some_left c.loop-left.left.now _ c.is_empty.ensures c.loop-left-test.true)
    c.take-taken.ensures.after c.take-taken.ensures.taken c.if-taken-eq0.true

pub returns : goal.returns
returns g c =
    ends _ _ _ _ _ _ c.loop-left.left.now c.loop-left.tap _ c.loop-left.invariant.continues
    (none_left c.loop-left.left.now _ c.is_empty.ensures c.loop-left-test.false)
