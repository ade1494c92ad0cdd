use Rattle.std.proofs.Common.{[], ◌∷◌, ◌+◌, length, refl, ap, arith, inl, ◌∙◌}
use Rattle.std.proofs.lemmas.List.{length-append}
use Rattle.coap_serve.specs.Prelude.{Times, config_of, new_server, OneMade}
use Rattle.coap_serve.specs.Prelude.{no_trace, service_of, trace_then, turn_trace, views_of, NoneMade}
use Rattle.coap_serve.proofs.listener.RunLemmas.{closed_ran, cut_ends, end_matches, memory_ends, nothing_matches}
use Rattle.coap_serve.proofs.listener.RunLemmas.{turn_allowed, turn_matches, wait_ran}
use Rattle.coap_serve.proofs.listener.ServingLemmas.{both_made, none_made}
use Rattle.coap_serve.proofs.door.run.Goals.{else-loop-turn-test, then-loop-turn-test+in-Err}
use Rattle.coap_serve.proofs.door.run.Goals as goal

pub loop-turn-init : goal.loop-turn-init
loop-turn-init g c = record {
  ran = rw c.in-Ok.ensures.value (none_made _ refl);
  front = no_trace;
  made = rw (c.in-Ok.ensures.value, c.in-Ok.ensures.none, c.in-Ok.ensures.second, c.in-Ok.ensures.idle) NoneMade;
  counted = refl;
  matches = nothing_matches _ _ _;
  ready = c.in-Ok.ensures.ready;
  fault = refl;
}

pub loop-turn-preserved : goal.loop-turn-preserved
loop-turn-preserved g c =
    let so_far = c.loop-turn.invariant in
    let times : Times = record { now = c.now-now.result; second = c.now-second.result } in
    let before = service_of c.loop-turn.service.server c.loop-turn.service.peers.entries c.loop-turn.service.second
    c.loop-turn.service.idle in
    let turn = c.in-Ok-turn.ensures.turn in
    record {
      ran = both_made so_far.ran (both_made (wait_ran _ _ _ c.wait_after_turn.ensures) c.turn.ensures.ran);
      front = trace_then so_far.front (turn_trace (length so_far.front.times) _ before times turn.history);
      made =
          OneMade so_far.front before _ times turn.history _ _ so_far.made
          (turn_allowed _ _ _ (views_of _ _ _ _ _ _) _ turn.made);
      counted = length-append so_far.front.times (times ∷ []) ∙ ap (λ n. n + 1) so_far.counted;
      matches =
          turn_matches _ _ _ _ _ _ so_far.front _ before times _ so_far.matches so_far.counted
          c.can_open.ensures c.now-now.ensures c.now-second.ensures c.wait_after_turn.ensures turn.accepted.known;
      ready = c.in-Ok-turn.ensures.ready;
      fault = so_far.fault;
    }

pub returns-clause-run : goal.returns-clause-run
returns-clause-run g c =
    let so_far = c.loop-turn.invariant in
    let before = service_of c.loop-turn.service.server c.loop-turn.service.peers.entries c.loop-turn.service.second
    c.loop-turn.service.idle in
    elim c.loop-turn-test.branch [
      -- All turns were made.
      | else-loop-turn-test w ↦
          let closed = rw (w.door-is, w.service-is) at c.close.ensures in
          rw (w.clock-is, w.uptime-is, w.monitor-is, w.application-is, w.fault-is, so_far.fault) (record {
            last = c.loop-turn.service.server;
            ran = both_made so_far.ran (closed_ran _ closed);
            ends = record {
              whole = so_far.front;
              service = before;
              wait = c.loop-turn.wait;
              made = so_far.made;
              counted = omega (arith, so_far.counted, w.loop-turn-test.false, c.turns-turns.ensures.value);
              matches = end_matches _ _ _ _ so_far.front _ so_far.matches closed;
              ended = refl;
            };
          })
      -- An allocation failed in a turn.
      | then-loop-turn-test+in-Err w ↦
          let times : Times = record { now = w.now-now.result; second = w.now-second.result } in
          let cut = w.in-Err.ensures.cut so_far.ready in
          let closed = rw (w.door-is, w.service-is) at c.close.ensures in
          rw (w.clock-is, w.uptime-is, w.monitor-is, w.application-is, w.fault-is) (cut_ends (Unit {0}) w.in-Err.memory
          w.in-Err.ensures.fault (both_made so_far.ran (both_made (wait_ran _ _ _ w.wait_after_turn.ensures)
          (both_made w.turn.ensures.ran (closed_ran _ closed)))) (record {
            front = so_far.front;
            service = before;
            wait = c.loop-turn.wait;
            made = so_far.made;
            few = omega (arith, so_far.counted, w.loop-turn-test.true, c.turns-turns.ensures.value);
            times = times;
            history = cut.history;
            cut = cut.made;
            left = w.turn.new.self.peers.entries;
            paired = w.turn.new.self.paired;
            matches =
                end_matches _ _ _ _ _ _
                (turn_matches _ _ _ _ _ _ so_far.front _ before times _ so_far.matches so_far.counted
                w.can_open.ensures w.now-now.ensures w.now-second.ensures w.wait_after_turn.ensures
                cut.accepted.known)
                closed;
          }))
    ]

pub returns-clause-fault : goal.returns-clause-fault
returns-clause-fault g c = elim c.loop-turn-test.branch [
  | else-loop-turn-test w ↦ rw (w.fault-is, c.loop-turn.invariant.fault) tt
  | then-loop-turn-test+in-Err w ↦ rw w.fault-is (memory_ends (Unit {0}) w.in-Err.memory w.in-Err.ensures.fault)
]

-- An allocation failed before the first turn.
pub returns-in_default-clause-run : goal.returns-in_default-clause-run
returns-in_default-clause-run g c = record {
  last = new_server (config_of c.args.setup.config);
  ran = none_made _ refl;
  ends = inl (nothing_matches _ _ _, refl);
}
