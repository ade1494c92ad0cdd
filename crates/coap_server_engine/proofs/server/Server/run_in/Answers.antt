use Rattle.std.proofs.Common.{◌≡◌, ◌++◌, ℕ, List, refl, sym, ap, ◌∙◌}
use Rattle.coap_server_engine.specs.Prelude.{event_ran, events_made, is_there, request_lines}
use Rattle.coap_server_engine.proofs.scripting.ShownLemmas.{shows_same, none_taken_there, run_refused}
use Rattle.coap_server_engine.proofs.server.Server.run_in.Goals as goal
use Rattle.coap_model.proofs.OptionLemmas.{there_is, there_is_none}

-- No connection has this id.
pub returns-in_default : goal.returns-in_default
unfolding event_ran events_made
returns-in_default c =
    let none = there_is_none _ (sym c.in_default.ensures.there) in
    rw (none, none_taken_there c.args.self.now c.args.id (ap is_there none))
    (assumption (shows_same c.args.self.now _ refl))

pub returns : goal.returns
unfolding event_ran events_made
returns c =
    let it = there_is _ (sym c.in-Some.ensures.there) in
    let e = c.in_ok-taken.ensures in
    let lines : c.take_all_listed.new.requests.items ≡ request_lines c.args.self.now c.args.id c.args.bytes.now =
    e.listed ∙ ap (λ (xs : List ℕ). xs ++ request_lines c.args.self.now c.args.id c.args.bytes.now)
    c.new-requests.ensures.items in
    rw it.1 (record {
      run = (e.after, rw (← e.count, ← e.after, ← c.stop_number-stop.ensures, ← c.in_line-line.ensures, ← lines));
      shows = e.shows;
    })

pub returns-in_err-taken-clause-shows : goal.returns-in_err-taken-clause-shows
returns-in_err-taken-clause-shows c = run_refused _ _ _ _ c.from_residual.ensures.0 c.in_err-taken.ensures.shows_err
