use Rattle.std.proofs.Common.{◌≡◌, ◌+◌, ◌-◌, suc, ◌∙◌, arith}
use Rattle.coap_server_session.specs.Prelude.{session_settled_within}
use Rattle.coap_server_session.proofs.session.Session.settle_each.Goals as goal

pub loop-preserved : goal.loop-preserved
unfolding session_settled_within
loop-preserved c =
    let one : c.settle_bound-end.result - c.loop.counter ≡ suc (c.settle_bound-end.result - (c.loop.counter + 1)) =
    omega (arith, c.loop-test.true) in
    let e = c.settle_once.ensures in
    (rw e.after (rw one at c.loop.invariant.0), (e.marked, e.split ∙ c.loop.invariant.1.1))
