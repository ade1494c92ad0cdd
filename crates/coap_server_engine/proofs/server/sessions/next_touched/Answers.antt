use Rattle.std.proofs.Common.{◌≡◌, length, arith}
use Rattle.coap_server_engine.specs.Prelude.{unmarked}
use Rattle.coap_server_engine.proofs.values.ServerLemmas.{unmarked_at}
use Rattle.coap_server_engine.proofs.values.ConcernedLemmas.{none_passed, one_passed, gap_untouched, covers_removed}
use Rattle.coap_server_engine.proofs.server.sessions.next_touched.Goals as goal

pub loop-at-init : goal.loop-at-init
loop-at-init c =
    let es = c.args.sessions.now.entries in
    let e = c.next-at.ensures in (
      e.from,
      omega (arith, e.within, c.len-end.ensures),
      (
        gap_untouched c.args.cause c.args.now c.args.from c.args.from _ _ es c.requires.covered e.between
            (none_passed c.args.cause c.args.now c.args.from es),
        c.requires.covered,
      ),
    )

pub loop-at-preserved : goal.loop-at-preserved
loop-at-preserved c =
    let es = c.args.sessions.now.entries in
    let why = c.args.cause in
    let e = c.is_touched.ensures in
    let calm = c.if-is_touched.false in
    let removed = c.remove_unless.ensures in
    let covers = covers_removed why _ _ _ _ _ _ (unmarked_at es _ _ c.index-session.ensures)
    c.may_be_touched.ensures removed.kept removed.others c.loop-at.invariant.2.1 in
    let passed = one_passed why _ _ _ es _ c.index-session.ensures
    (e.untouched calm, e.unmarked calm) c.loop-at.invariant.2.0 in
    let next = c.next-at-in-loop-at.ensures in (
      omega (arith, next.from, c.loop-at.invariant.0),
      omega (arith, next.within, c.len-end.ensures),
      (gap_untouched why _ _ _ _ _ es covers next.between passed, covers),
    )

pub loop-at-smaller : goal.loop-at-smaller
loop-at-smaller c = omega (arith, c.next-at-in-loop-at.ensures.from, c.loop-at-test.true, c.len-end.ensures)

pub returns-clause-none : goal.returns-clause-none
returns-clause-none c =
    let end : c.loop-at.at ≡ length _ = omega (arith, c.loop-at-test.false, c.len-end.ensures, c.loop-at.invariant.1) in
    rw end at c.loop-at.invariant.2.0
