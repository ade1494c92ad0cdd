use Rattle.std.proofs.Common.{refl, arith}
use Rattle.coap_server_polled.proofs.OutputLemmas.{all_reported, search_continues, search_reports}
use Rattle.coap_server_polled.proofs.OutputLemmas.{search_yields}
use Rattle.coap_server_polled.proofs.polled_server.PolledServer.next_output.Goals as goal

pub returns-then-count-gt0-clause-found : goal.returns-then-count-gt0-clause-found
returns-then-count-gt0-clause-found c =
    search_yields c.args.self.now c.loop-at.self c.loop-at.at c.queued_at-id.result.0 c.queued_at-id.result.1 _
    c.loop-at.invariant (omega arith)
    (record { small = omega arith; clear = c.remove.ensures.clear; others = c.remove.ensures.others }) refl
    c.queued_at-id.ensures.lies c.queued_at-id.ensures.count c.if-count-gt0.true

pub returns-then-count-gt0-clause-output : goal.returns-then-count-gt0-clause-output
returns-then-count-gt0-clause-output c =
    search_reports c.args.self.now c.loop-at.self c.loop-at.at c.queued_at-id.result.0 c.queued_at-id.result.1 _
    c.loop-at.invariant (omega arith)
    (record { small = omega arith; clear = c.remove.ensures.clear; others = c.remove.ensures.others }) refl
    c.queued_at-id.ensures.lies c.queued_at-id.ensures.count

pub loop-at-preserved : goal.loop-at-preserved
loop-at-preserved c =
    let next = c.next-at-in-loop-at.ensures in
    search_continues c.args.self.now c.loop-at.self c.loop-at.at c.queued_at-id.result.0 c.queued_at-id.result.1 _
    c.loop-at.invariant (omega arith)
    (record { small = omega arith; clear = c.remove.ensures.clear; others = c.remove.ensures.others }) refl
    c.queued_at-id.ensures.lies c.queued_at-id.ensures.count c.if-count-gt0.false
    c.next-at-in-loop-at.result (omega arith) next.between
    (λ less small. next.found (omega arith) small)

pub returns-clause-output : goal.returns-clause-output
returns-clause-output c = all_reported c.args.self.now c.loop-at.self c.loop-at.at c.loop-at.invariant
