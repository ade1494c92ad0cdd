use Rattle.std.proofs.Common.{arith}
use Rattle.std.proofs.lemmas.List.{length-map}
use Rattle.coap_server_engine.specs.Prelude.{unmarked, unmarked_entry}
use Rattle.coap_server_session.specs.declared.cause.Cause.TheVariants as cause
use Rattle.coap_server_engine.proofs.values.ServerLemmas.{unmarked_at}
use Rattle.coap_server_engine.proofs.values.ConcernedLemmas.{covers_removed}
use Rattle.coap_server_engine.proofs.values.WorkLemmas.{search_begins, search_continues, search_ends}
use Rattle.coap_server_engine.proofs.server.sessions.earliest_deadline.Goals as goal

pub loop-at-init : goal.loop-at-init
loop-at-init c =
    let es = c.args.sessions.now.entries in
    let e = c.next-at.ensures in (
      omega (arith, e.within, c.len-end.ensures),
      c.requires,
      search_begins _ _ _ _ c.requires e.between,
    )

pub loop-at-preserved : goal.loop-at-preserved
loop-at-preserved c =
    let es = c.args.sessions.now.entries in
    let now = c.args.now in
    let at = c.loop-at.at in
    let there = unmarked_at es at _ c.index-session.ensures in
    let removed = c.remove_unless.ensures in
    let covers = covers_removed (cause.Moment now) _ _ at (unmarked es) _ _ there c.may_be_touched.ensures removed.kept
    removed.others c.loop-at.invariant.1 in
    let next = c.next-at-in-loop-at.ensures in (
      omega (arith, next.within, c.len-end.ensures),
      covers,
      rw (c.sooner-due.ensures, c.due.ensures) (search_continues now (unmarked es) _ at _ _ c.loop-at.due there
          next.from covers next.between c.loop-at.invariant.2),
    )

pub loop-at-smaller : goal.loop-at-smaller
loop-at-smaller c = omega (arith, c.next-at-in-loop-at.ensures.from, c.loop-at-test.true, c.len-end.ensures)

pub returns : goal.returns
returns c =
    let es = c.args.sessions.now.entries in record {
      covered = c.loop-at.invariant.1;
      earliest = search_ends _ _ _ _
          (omega (arith, c.loop-at-test.false, c.len-end.ensures, length-map es unmarked_entry)) c.loop-at.invariant.2;
    }
