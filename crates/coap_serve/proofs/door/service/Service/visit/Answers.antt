use Rattle.std.proofs.Common.{ap, refl}
use Rattle.coap_serve.specs.Prelude.{loop_state}
use Rattle.coap_serve.proofs.listener.ServingLemmas.{accepted_then, not_turned, opening_known, turned_further}
use Rattle.coap_serve.proofs.listener.SleepLemmas.{some_woken}
use Rattle.coap_serve.proofs.door.service.Service.visit.Goals as goal

pub accept-requires-clause-asleep : goal.accept-requires-clause-asleep
accept-requires-clause-asleep g c = some_woken c.wake_places.ensures (c.args.self.now.asleep c.requires)

pub returns-in_err-opens-clause-shows : goal.returns-in_err-opens-clause-shows
returns-in_err-opens-clause-shows g c =
    let refused = c.in_err-opens.ensures.refused in
    not_turned refused.3 refused.0 (ap g.M.Monitor.follows refused.1) refused.2 refused.4

pub returns-in_err-serve_each-clause-shows : goal.returns-in_err-serve_each-clause-shows
returns-in_err-serve_each-clause-shows g c =
    let one = c.in_ok-opens.ensures.opened in
    turned_further _ _ (loop_state _ _) one.handed one.opened (opening_known one.handed one.accepted)
    c.serve_each.ensures.shows

pub returns-clause-shows : goal.returns-clause-shows
returns-clause-shows g c =
    let one = c.in_ok-opens.ensures.opened in
    turned_further _ _ (loop_state _ _) one.handed one.opened (opening_known one.handed one.accepted)
    c.serve_each.ensures.shows

pub returns-clause-turn : goal.returns-clause-turn
returns-clause-turn g c =
    let one = c.in_ok-opens.ensures.opened in
    let served = c.in_ok-serve_each.ensures.served in
    record {
      history = _;
      made = record {
        handed = one.handed;
        between = loop_state _ _;
        opened = one.opened;
        visits = served.history;
        served = rw c.accept.ensures.times.0 at served.made;
        waits = rw one.is at c.next_wait-wait.ensures.wait;
        all = refl;
      };
      accepted = accepted_then (opening_known one.handed one.accepted) served.accepted;
    }
