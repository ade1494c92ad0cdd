use Rattle.std.proofs.Common.{arith, ◌≤◌, length}
use Rattle.coap_serve.proofs.listener.RoundLemmas.{none_swept, one_more_swept, all_swept}
use Rattle.coap_serve.proofs.door.sweep.sweep.Goals as goal

pub loop-at-init : goal.loop-at-init
loop-at-init g c = (omega arith, none_swept _ c.args.peers.now.entries, c.requires)

pub loop-at-preserved : goal.loop-at-preserved
loop-at-preserved g c = (
  c.sweep_at-next.ensures.within,
  one_more_swept _ _ _ _ _ _ _
      (omega (arith, c.loop-at-test.true, c.len.ensures.len)) c.loop-at.invariant.1 c.sweep_at-next.ensures.part
      c.give_back.ensures,
  c.sweep_at-next.ensures.paired,
)

pub returns : goal.returns
returns g c =
    let most : length c.loop-at.peers.entries ≤ c.loop-at.at = omega (arith, c.loop-at-test.false, c.len.ensures.len) in
    let all = all_swept _ _ most c.loop-at.invariant.1 in
    record { has = all.0; entries = all.1; paired = c.loop-at.invariant.2 }
