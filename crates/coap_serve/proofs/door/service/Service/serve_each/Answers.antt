use Rattle.std.proofs.Common.{refl, ◌≤◌, ◌∙◌, length, arith}
use Rattle.coap_serve.specs.Prelude.{history_then, no_history}
use Rattle.coap_serve.proofs.listener.RoundLemmas.{all_are_served, none_served, one_served, skipped_to}
use Rattle.coap_serve.proofs.listener.ServingLemmas.{accepted_none, accepted_then, both_made, none_made}
use Rattle.coap_serve.proofs.door.service.Service.serve_each.Goals as goal

pub loop-at-init : goal.loop-at-init
loop-at-init g c = record {
  within = c.next_ready-at.ensures.within;
  done = record {
    history = no_history;
    made =
        skipped_to _ 0 _ (omega arith) c.next_ready-at.ensures.within c.next_ready-at.ensures.skipped (none_served _);
    accepted = accepted_none _ _ _ refl;
  };
  shows = none_made _ refl;
  asleep = c.requires.asleep;
  times = (refl, refl);
  spent = c.requires.spent;
  next = c.next_ready-at.ensures.next;
}

pub loop-at-preserved : goal.loop-at-preserved
loop-at-preserved g c =
    let so_far = c.loop-at.invariant in
    let one = c.in_ok-later.ensures.part in
    let next = c.next_ready-at-in-loop-at in
    record {
      within = next.ensures.within;
      done = record {
        history = history_then so_far.done.history one.history;
        made =
            skipped_to _ _ next.result next.ensures.from next.ensures.within next.ensures.skipped
            (one_served _ (rw so_far.times.0 at one.made) so_far.done.made);
        accepted = accepted_then so_far.done.accepted one.accepted;
      };
      shows = both_made so_far.shows c.serve_next.ensures.shows;
      asleep = c.in_ok-later.ensures.asleep;
      times = (c.serve_next.ensures.times.0 ∙ so_far.times.0, c.serve_next.ensures.times.1 ∙ so_far.times.1);
      spent = c.serve_next.ensures.spent;
      next = next.ensures.next;
    }

pub returns-clause-served : goal.returns-clause-served
returns-clause-served g c =
    let so_far = c.loop-at.invariant.done in
    let most : length c.loop-at.self.peers.entries ≤ c.loop-at.at =
    omega (arith, c.loop-at-test.false, c.len.ensures.len) in
    record { history = so_far.history; made = all_are_served _ most so_far.made; accepted = so_far.accepted }
