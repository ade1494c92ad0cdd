use Rattle.std.proofs.Common.{Some, None, rules, arith}
use Rattle.coap_io.proofs.streams.DeviceLemmas.{bytes_none}
use Rattle.coap_client_engine.proofs.RunLemmas.{answers_on, leads, wrote}
use Rattle.coap_client_engine.proofs.run.state.Run.flush.Goals as goal

pub returns-in-Some-clause-runs : goal.returns-in-Some-clause-runs
returns-in-Some-clause-runs g c = λ plan start now trace is_at ends may rests.
    let got = c.write-got.ensures in
    answers_on (Some 3) c.stopped.result c.stopped.ensures.ended c.stopped.ensures.reported
    (λ reported. leads _ (wrote is_at c.args.next c.write-got.result (Some c.in-Some.reason) ends may rests
    (grind arith) got.kept.0 got.client got.shows c.in-Some.ensures (search rules)) (grind arith) (λ c at ends is. is))

pub returns-in-None-clause-runs : goal.returns-in-None-clause-runs
returns-in-None-clause-runs g c = λ plan start now trace is_at ends may rests.
    let got = c.write-got.ensures in
    leads _ (wrote is_at c.args.next c.write-got.result None ends may rests (grind arith) got.kept.0 got.client
    got.shows c.in-None.ensures (search (rules, bytes_none))) (grind arith) (λ c at ends is. is)
