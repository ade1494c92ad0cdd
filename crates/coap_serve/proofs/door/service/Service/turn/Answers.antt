use Rattle.std.proofs.Common.{ap, refl, sym, ◌∙◌}
use Rattle.std.proofs.lemmas.Result.{err_from_is_err_and}
use Rattle.coap_serve.specs.Prelude.{history_then, service_of, short_wait, wait_within}
use Rattle.coap_serve.proofs.listener.RunLemmas.{later_ran, made_to_end, parts_begin, sweep_ran, time_called, time_ran}
use Rattle.coap_serve.proofs.listener.RunLemmas.{turn_ran}
use Rattle.coap_serve.proofs.listener.ServingLemmas.{accepted_then, both_made}
use Rattle.coap_serve.proofs.door.service.Service.turn.Goals as goal

pub returns-in_err-next-clause-ran : goal.returns-in_err-next-clause-ran
returns-in_err-next-clause-ran g c =
    both_made (sweep_ran c.args.self.now.idle c.args.self.now.second c.args.times.second c.args.self.now.peers.entries
    c.end_silent.ensures.swept)
    (both_made (time_ran _ c.tick.ensures.moved (time_called g.M.Monitor.follows _ _ _ _ c.tick.ensures.answer
    c.tick.ensures.shows c.tick.ensures.reported c.tick.ensures.err))
    (both_made (later_ran c.answer_later-is_full.ensures.shows) (turn_ran c.visit.ensures.shows)))

pub returns-clause-ran : goal.returns-clause-ran
returns-clause-ran g c =
    made_to_end (
    both_made (sweep_ran c.args.self.now.idle c.args.self.now.second c.args.times.second c.args.self.now.peers.entries
    c.end_silent.ensures.swept)
    (both_made (time_ran _ c.tick.ensures.moved (time_called g.M.Monitor.follows _ _ _ _ c.tick.ensures.answer
    c.tick.ensures.shows c.tick.ensures.reported c.tick.ensures.err))
    (both_made (later_ran c.answer_later-is_full.ensures.shows) (turn_ran c.visit.ensures.shows))))
    c.turn_ended.ensures.follows

-- The parts of a whole turn, in order.
pub returns-clause-turn : goal.returns-clause-turn
returns-clause-turn g c =
    let v = c.args.self.now in
    let later = c.answer_later-is_full in
    let begun =
    parts_begin {follows = g.A.Application.follows} {rests = g.A.Application.idle} {times = c.args.times}
    {s = service_of v.server v.peers.entries v.second v.idle} _ _ c.end_silent.ensures.swept c.tick.ensures.moved
    (time_called g.M.Monitor.follows _ _ _ _ c.tick.ensures.answer
    c.tick.ensures.shows c.tick.ensures.reported c.tick.ensures.err) later.ensures.shows later.ensures.idle in
    let second = later.ensures.times.0 ∙ c.tick.ensures.times.0 ∙ c.end_silent.ensures.second in
    let idle = c.visit.ensures.times.1 ∙ later.ensures.times.1 ∙ c.tick.ensures.times.1 ∙ c.end_silent.ensures.idle in
    let entries =
    ap (λ peers. peers.entries) (later.ensures.peers ∙ c.tick.ensures.peers) ∙ c.end_silent.ensures.entries in
    let turn = rw (second, entries ∙ sym (ap (λ s. s.entries) begun.begun.is_swept)) at c.in_ok-next.ensures.turn in
    made_to_end (record {
      history = history_then begun.history turn.history;
      made = record {
        start = record { server = later.new.self.server; is_full = later.result; history = begun.history };
        begun = begun.begun;
        limit = c.wait.result;
        allowed = c.wait.ensures;
        next = c.in_ok-next.next;
        visits = turn.history;
        turn = turn.made;
        shows = turn.accepted.shows;
        all = refl;
        waits =
            c.at_most_a_second.ensures
            ∙ ap (λ i. short_wait i c.visit.new.self.server.shared.now c.visit.new.self.peers.entries
            c.wait_within.result)
            idle ∙ ap (λ w. short_wait v.idle c.visit.new.self.server.shared.now c.visit.new.self.peers.entries w)
            (c.wait_within.ensures ∙ ap (λ limit. wait_within limit c.in_ok-next.next) c.limit_for-limit.ensures);
        second = c.visit.ensures.times.0 ∙ second;
        idle = idle;
      };
      accepted = accepted_then begun.accepted turn.accepted;
    }) c.turn_ended.ensures.follows

-- An allocation failed in the visits.
pub returns-in_err-next-clause-cut : goal.returns-in_err-next-clause-cut
returns-in_err-next-clause-cut g c =
    let p = err_from_is_err_and c.from_residual.result c.from_residual.ensures.1 in
    let later = c.answer_later-is_full in
    let begun =
    parts_begin _ _ c.end_silent.ensures.swept c.tick.ensures.moved
    (time_called g.M.Monitor.follows _ _ c.tick.result _ c.tick.ensures.answer
    c.tick.ensures.shows c.tick.ensures.reported c.tick.ensures.err) later.ensures.shows later.ensures.idle in
    let cut = c.visit.ensures.shows in
    rw p.1 (λ ready. record {
      history = history_then begun.history cut.history;
      made = record {
        start = record { server = later.new.self.server; is_full = later.result; history = begun.history };
        begun = begun.begun;
        cut = record {
          history = cut.history;
          made = cut.made;
          accepted = record { shows = cut.accepted.shows; known = refl };
        };
      };
      accepted = accepted_then begun.accepted cut.accepted;
    })
