use Rattle.std.proofs.Common.{arith}
use Rattle.std.proofs.lemmas.Option.{slice_get_past}
use Rattle.coap_serve.proofs.listener.SleepLemmas.{each_on, looked_at, sleepers_skipped}
use Rattle.coap_serve.proofs.door.next_ready.next_ready.Goals as goal

pub loop-at-init : goal.loop-at-init
loop-at-init g c = (
  c.next-at.ensures.from,
  omega (arith, c.next-at.ensures.within, c.len.ensures.len),
  sleepers_skipped c.requires.asleep c.next-at.ensures.asleep,
)

pub loop-at-preserved : goal.loop-at-preserved
loop-at-preserved g c =
    let readable = g.W.Ready.readable in
    let writable = g.W.Ready.writable in
    let looked = looked_at readable writable c.args.server.now c.args.peers.now.entries c.loop-at.at
    c.interest_at-interest.ensures c.index.ensures (rw c.if-is_ready.false at c.is_ready.ensures) in (
      omega (arith, c.loop-at.invariant.0, c.next-at-in-loop-at.ensures.from),
      omega (arith, c.next-at-in-loop-at.ensures.within, c.len-in-loop-at.ensures.len),
      each_on c.loop-at.at c.loop-at.invariant.2 (rw looked.1 looked.3)
          (sleepers_skipped c.requires.asleep c.next-at-in-loop-at.ensures.asleep),
    )

pub returns-then-is_ready-clause-next : goal.returns-then-is_ready-clause-next
returns-then-is_ready-clause-next g c =
    let looked = looked_at g.W.Ready.readable g.W.Ready.writable c.args.server.now c.args.peers.now.entries c.loop-at.at
    c.interest_at-interest.ensures c.index.ensures (rw c.if-is_ready.true at c.is_ready.ensures) in
    rw looked.1 looked.3

pub returns-clause-next : goal.returns-clause-next
returns-clause-next g c =
    rw (slice_get_past c.args.peers.now.entries c.loop-at.at (omega (arith, c.loop-at-test.false, c.len.ensures.len)))
    tt
