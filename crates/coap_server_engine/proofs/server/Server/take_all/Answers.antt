use Rattle.std.proofs.Common.{◌≤◌, length, sym, ◌∙◌, arith, rules, subst, None, ◌≡◌}
use Rattle.coap_server_engine.specs.Prelude.{server_taken, count_taken, LiesAt, session_of}
use Rattle.coap_io.proofs.streams.WriteLemmas.{rest_of}
use Rattle.coap_server_engine.proofs.scripting.ReplayLemmas.{used_up, used_up_shows, feeds_more, stops_there, short}
use Rattle.coap_server_engine.proofs.scripting.ReplayLemmas.{short_shown, stopped_shows, fed_nothing, feeds_nothing}
use Rattle.coap_model.proofs.OptionLemmas.{there_is}
use Rattle.coap_server_engine.proofs.server.Server.take_all.Goals as goal
use Rattle.coap_server_engine.proofs.scripting.ShownLemmas.{shows_same}

pub loop-taken-init : goal.loop-taken-init
loop-taken-init c =
    let lies = subst (λ v. LiesAt c.args.id c.in-Some.at v.sessions) c.self.view_is c.in-Some.ensures.some in
    (feeds_nothing c.args.self.now c.args.id c.args.bytes.now, lies)

pub loop-taken-preserved : goal.loop-taken-preserved
loop-taken-preserved c =
    let t = rw (rest_of _ c.args.bytes.now) at c.in-Ok.ensures in (
      feeds_more c.loop-taken.invariant.0 c.loop-taken-test.true _ _ t.within t.count c.if-piece-eq0.false t.ok
          (rw ((there_is _ t.there).1, ← t.count) t.shows),
      t.lies,
    )

-- A take accepted no byte.
pub returns-then-piece-eq0 : goal.returns-then-piece-eq0
returns-then-piece-eq0 c =
    let t = rw (rest_of _ c.args.bytes.now) at c.in-Ok.ensures in
    let feeds = c.loop-taken.invariant.0 in
    let none = sym t.count ∙ c.if-piece-eq0.true in
    rw (stops_there feeds c.loop-taken-test.true _ none t.ok).0 (search (
      rules,
      stopped_shows feeds c.loop-taken-test.true _ none t.ok (rw ((there_is _ t.there).1, ← t.count) t.shows),
    ))

-- No connection has this id.
pub returns-in-Err-NoSuch : goal.returns-in-Err-NoSuch
unfolding server_taken count_taken
returns-in-Err-NoSuch c =
    let no = rw c.in-Err-NoSuch.field-0-is at c.in-Err-NoSuch.ensures.refused in
    let feeds = c.loop-taken.invariant.0 in
    rw (stops_there feeds c.loop-taken-test.true c.take_at.new.self (rw no.0) (rw no.0 no.1)).0 (search (
      rules,
      stopped_shows feeds c.loop-taken-test.true c.take_at.new.self (rw no.0) (rw no.0 no.1)
          (rw no.0 (shows_same _ _ no.1)),
    ))

pub returns-in-Err-Memory : goal.returns-in-Err-Memory
returns-in-Err-Memory c =
    let e = rw (c.in-Err-Memory.field-0-is, rest_of _ c.args.bytes.now) at c.in-Err-Memory.ensures in
    search (
      rules,
      short c.loop-taken.invariant.0 c.loop-taken-test.true _ _ e.refused,
      short_shown c.loop-taken.invariant.0 c.loop-taken-test.true _ _ e.refused e.shows_refused,
    )

-- No byte is left.
pub returns : goal.returns
returns c =
    let none : length c.args.bytes.now ≤ c.loop-taken.taken = omega (arith, c.loop-taken-test.false) in
    rw (used_up c.loop-taken.invariant.0 none) (search (rules, used_up_shows c.loop-taken.invariant.0 none))

-- No connection had this id at the start.
pub returns-in_default : goal.returns-in_default
returns-in_default c =
    let none = subst (λ v. session_of c.args.id v.sessions ≡ None) c.self.view_is c.in_default.ensures.none in
    let nothing = fed_nothing c.args.self.now c.args.id none c.args.bytes.now in
    rw nothing.0 (search (rules, nothing.1))
