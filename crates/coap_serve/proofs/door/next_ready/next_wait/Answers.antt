use Rattle.std.proofs.Common.{ap, arith, length, map, refl, ◌+◌, ◌≤◌, ◌∙◌}
use Rattle.std.proofs.lemmas.List.{length-map}
use Rattle.std.proofs.lemmas.Option.{slice_get-map}
use Rattle.coap_serve.specs.Prelude.{peer_status}
use Rattle.coap_serve.proofs.listener.SleepLemmas.{calm_wait, none_idle, one_idle, opened_wait, ready_wait}
use Rattle.coap_serve.proofs.listener.SleepLemmas.{sleepers_idle, looked_at, one_looked, sleepers_rest}
use Rattle.coap_serve.proofs.door.next_ready.next_wait.Goals as goal

pub returns-then-opens-clause-wait : goal.returns-then-opens-clause-wait
returns-then-opens-clause-wait g c = rw c.if-opens.true (opened_wait _)

pub loop-at-init : goal.loop-at-init
loop-at-init g c =
    let readable = g.W.Ready.readable in
    let writable = g.W.Ready.writable in
    let all = map (peer_status readable writable c.args.server.now) _ in
    let within : c.next-at.result ≤ length c.args.peers.now.entries =
    omega (arith, c.next-at.ensures.within, c.len.ensures.len) in (
      within,
      sleepers_idle 0 _ (omega arith)
          (omega (arith, within, length-map c.args.peers.now.entries (peer_status readable writable c.args.server.now)))
          (sleepers_rest c.requires.asleep c.next-at.ensures.asleep) (none_idle {all = all}),
      c.requires.asleep,
    )

pub loop-at-preserved : goal.loop-at-preserved
loop-at-preserved g c =
    let readable = g.W.Ready.readable in
    let writable = g.W.Ready.writable in
    let entries = c.args.peers.now.entries in
    let status = peer_status readable writable c.args.server.now in
    let looked = looked_at readable writable c.args.server.now entries c.loop-at.at c.interest_at-interest.ensures
    c.index-peer.ensures (rw c.if-is_ready.false at c.is_ready.ensures) in
    let due = ap (λ w. w.due) looked.2 in
    let within : c.next-at-in-loop-at.result ≤ length entries = omega (
      arith,
      c.next-at-in-loop-at.ensures.within,
      c.len-in-loop-at.ensures.len,
    ) in
    let asleep = one_looked c.loop-at.invariant.2 c.loop-at.at looked.1 looked.3 due
    c.record_look.ensures.asleep c.record_look.ensures.awake in (
      within,
      sleepers_idle (c.loop-at.at + 1) c.next-at-in-loop-at.result c.next-at-in-loop-at.ensures.from
          (omega (arith, within, length-map entries status)) (sleepers_rest asleep c.next-at-in-loop-at.ensures.asleep)
          (one_idle c.loop-at.at (slice_get-map status entries c.loop-at.at ∙ rw looked.1 refl) looked.3
          (rw due at c.sooner-due.ensures) c.loop-at.invariant.1),
      asleep,
    )

pub returns-then-is_ready-clause-wait : goal.returns-then-is_ready-clause-wait
returns-then-is_ready-clause-wait g c =
    let readable = g.W.Ready.readable in
    let writable = g.W.Ready.writable in
    let entries = c.args.peers.now.entries in
    let status = peer_status readable writable c.args.server.now in
    let looked = looked_at readable writable c.args.server.now entries c.loop-at.at c.interest_at-interest.ensures
    c.index-peer.ensures (rw c.if-is_ready.true at c.is_ready.ensures) in
    rw c.if-opens.false (ready_wait c.loop-at.at (slice_get-map status entries c.loop-at.at ∙ rw looked.1 refl) looked.3
    c.loop-at.invariant.1)

pub returns-clause-wait : goal.returns-clause-wait
returns-clause-wait g c =
    let entries = c.args.peers.now.entries in
    let status = peer_status g.W.Ready.readable g.W.Ready.writable c.args.server.now in
    let most : length (map status entries) ≤ c.loop-at.at = omega (
      arith,
      length-map entries status,
      c.loop-at-test.false,
      c.len.ensures.len,
    ) in
    rw (c.if-opens.false, c.wait_for.ensures) (calm_wait c.loop-at.at most c.loop-at.invariant.1)
