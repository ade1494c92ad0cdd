use Rattle.std.proofs.Common.{◌∙◌, refl}
use Rattle.coap_log.proofs.ConnectionLemmas.{some_left, none_left}
use Rattle.program_explain.proofs.MessageLemmas.{begins, ends, ends_stuck, goes}
use Rattle.program_explain.proofs.messages.show_messages.Goals as goal

pub returns-then-taken-eq0-clause-tap : goal.returns-then-taken-eq0-clause-tap
returns-then-taken-eq0-clause-tap g c =
    (ends_stuck _ _ _ _ _ _ _ _ _ _ _ _ _ c.loop-left.invariant.passes
    (some_left _ _ c.is_empty.ensures c.loop-left-test.true) c.take-taken.ensures.after c.take-taken.ensures.taken
    c.if-taken-eq0.true).0

pub returns-then-taken-eq0-clause-prints : goal.returns-then-taken-eq0-clause-prints
returns-then-taken-eq0-clause-prints g c = (
  (ends_stuck _ _ _ _ _ _ _ _ _ _ _ _ _ c.loop-left.invariant.passes
      (some_left _ _ c.is_empty.ensures c.loop-left-test.true) c.take-taken.ensures.after c.take-taken.ensures.taken
      c.if-taken-eq0.true).1,
  c.loop-left.invariant.only,
)

pub loop-left-init : goal.loop-left-init
loop-left-init g c = record {
  passes = begins _ _ _ _ _ _ _;
  shown = λ is. is;
  only = refl;
  works = c.requires;
}

pub loop-left-preserved : goal.loop-left-preserved
loop-left-preserved g c = record {
  passes =
      goes _ _ _ _ _ _ _ _ _ _ _ _ _ _ _ c.loop-left.invariant.passes
      (some_left _ _ c.is_empty.ensures c.loop-left-test.true) c.take-taken.ensures.after c.take-taken.ensures.taken
      c.if-taken-eq0.false c.take-taken.ensures.within
      (rw (c.loop-left.invariant.only, c.whole_line.ensures) at c.in_ok-show_line.ensures.prints.0);
  shown = λ is. c.in_ok-show_line.ensures.shown (c.loop-left.invariant.shown is);
  only = c.in_ok-show_line.ensures.prints.1 ∙ c.loop-left.invariant.only;
  works = c.in_ok-show_line.ensures.failure;
}

pub returns-clause-tap : goal.returns-clause-tap
returns-clause-tap g c =
    (ends _ _ _ _ _ _ _ _ _ _ _ c.loop-left.invariant.passes
    (none_left _ _ c.is_empty.ensures c.loop-left-test.false)).0

pub returns-clause-prints : goal.returns-clause-prints
returns-clause-prints g c = (
  (ends _ _ _ _ _ _ _ _ _ _ _ c.loop-left.invariant.passes
      (none_left _ _ c.is_empty.ensures c.loop-left-test.false)).1,
  c.loop-left.invariant.only,
)
