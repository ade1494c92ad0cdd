use Rattle.std.proofs.Common.{◌≤◌, length, sym, ◌∙◌, arith, rules}
use Rattle.coap_io.proofs.streams.WriteLemmas.{rest_of}
use Rattle.coap_server_engine.proofs.values.ResponseLemmas.{on_err}
use Rattle.coap_server_engine.proofs.scripting.ReplayLemmas.{stops_there, stopped_shows, used_up, used_up_shows}
use Rattle.coap_server_engine.proofs.scripting.ReplayLemmas.{lists_nothing, lists_more, listed_and_stopped, listed_all}
use Rattle.coap_server_engine.proofs.scripting.ReplayLemmas.{unfinished}
use Rattle.coap_server_engine.proofs.server.Server.take_all_listed.Goals as goal

pub loop-taken-init : goal.loop-taken-init
loop-taken-init c = (lists_nothing _ c.args.id _ _, c.requires)

-- Allocation failed.
pub returns-in_err-count-clause-err : goal.returns-in_err-count-clause-err
returns-in_err-count-clause-err c =
    let e = rw (rest_of _ c.args.bytes.now) at c.in_err-count.ensures in
    on_err _ _ (unfinished c.loop-taken.invariant.0 c.loop-taken-test.true _ e.err).0

pub returns-in_err-count-clause-shows_err : goal.returns-in_err-count-clause-shows_err
returns-in_err-count-clause-shows_err c =
    let e = rw (rest_of _ c.args.bytes.now) at c.in_err-count.ensures in
    on_err _ _ (unfinished c.loop-taken.invariant.0 c.loop-taken-test.true _ e.err).1

-- A take accepted no byte.
pub returns-then-count-eq0 : goal.returns-then-count-eq0
returns-then-count-eq0 c =
    let e = rw (rest_of c.loop-taken.taken c.args.bytes.now) at c.in_ok-count.ensures in
    let lists = c.loop-taken.invariant.0 in
    let none = sym e.count ∙ c.if-count-eq0.true in
    rw (stops_there lists.feeds c.loop-taken-test.true _ none e.after).0 (search (
      rules,
      stopped_shows lists.feeds c.loop-taken-test.true _ none e.after e.shows,
      listed_and_stopped lists c.loop-taken-test.true _ _ none e.after e.listed,
    ))

pub loop-taken-preserved : goal.loop-taken-preserved
loop-taken-preserved c =
    let e = rw (rest_of _ c.args.bytes.now) at c.in_ok-count.ensures in (
      lists_more c.loop-taken.invariant.0 c.loop-taken-test.true _ _ _ e.within e.count c.if-count-eq0.false
          e.after e.shows e.listed,
      e.lies,
    )

-- No byte is left.
pub returns : goal.returns
returns c =
    let none : length c.args.bytes.now ≤ c.loop-taken.taken = omega (arith, c.loop-taken-test.false) in
    let lists = c.loop-taken.invariant.0 in
    rw (used_up lists.feeds none) (search (rules, used_up_shows lists.feeds none, listed_all lists none))
