use Rattle.std.proofs.Common.{refl, arith, length, ◌∙◌}
use Rattle.coap_server_engine.proofs.values.ServerLemmas.{splits_written, length-written}
use Rattle.coap_server_engine.proofs.values.ConcernedLemmas.{AreUpTo, next_but, passed, one_more, none_left}
use Rattle.coap_server_engine.proofs.values.ConcernedLemmas.{covers_one_marked}
use Rattle.coap_server_engine.proofs.server.sessions.settle_touched.Goals.{After-index_mut}
use Rattle.coap_server_engine.proofs.server.sessions.settle_touched.Goals as goal

pub loop-at-init : goal.loop-at-init
loop-at-init c = (omega arith, ((refl, c.requires.marked), (refl, c.requires.covered)))

pub next_touched-requires : goal.next_touched-requires
next_touched-requires c = record { from = c.loop-at.invariant.0; covered = c.loop-at.invariant.1.1.1 }

-- The connections before the one that was found are settled.
up_to_found : (c : After-index_mut)
    → AreUpTo c.args.cause c.args.shared.now c.in-Some.at c.args.sessions.now.entries c.loop-at.sessions.entries
up_to_found c =
    let e = c.in-Some.ensures in
    passed _ c.args.shared.now _ c.in-Some.at _
    c.loop-at.sessions.entries e.from (omega (arith, e.within)) c.loop-at.invariant.1.0 c.requires.settled e.some

pub mark_and_settle-requires : goal.mark_and_settle-requires
mark_and_settle-requires c =
    (next_but c.args.cause c.args.shared.now c.in-Some.at _ c.loop-at.sessions.entries _ (up_to_found c)
    c.index_mut.ensures.value).1

pub loop-at-preserved : goal.loop-at-preserved
loop-at-preserved c =
    let es = c.loop-at.sessions.entries in
    let after = c.mark_and_settle.new.self in
    let e = c.mark_and_settle.ensures in (
      omega (arith, c.in-Some.ensures.within, length-written es c.in-Some.at after),
      (
        one_more c.args.cause c.args.shared.now c.in-Some.at c.args.sessions.now.entries es _ after
            (up_to_found (goal.at.loop-at-preserved c).After-index_mut) c.index_mut.ensures.value e.after e.marked,
        (
          splits_written es c.in-Some.at _ after c.index_mut.ensures.value e.split ∙ c.loop-at.invariant.1.1.0,
          covers_one_marked c.args.cause _ c.args.shared.now c.in-Some.at es _ after c.index_mut.ensures.value
              e.after c.in-Some.ensures.covered,
        ),
      ),
    )

pub loop-at-smaller : goal.loop-at-smaller
loop-at-smaller c =
    omega (
      arith,
      c.in-Some.ensures.within,
      c.in-Some.ensures.from,
      length-written c.loop-at.sessions.entries c.in-Some.at c.mark_and_settle.new.self,
    )

pub returns : goal.returns
returns c =
    let es = c.loop-at.sessions.entries in
    let up = passed _ c.args.shared.now _ (length es) _ es
    c.loop-at.invariant.0 (omega arith) c.loop-at.invariant.1.0 c.requires.settled c.in_default.ensures.none in
    let all = none_left _ c.args.shared.now (length es) _ es (omega arith) up in
    record { after = all.0; marked = all.1; splits = c.loop-at.invariant.1.1.0; covered = c.in_default.ensures.covered }
