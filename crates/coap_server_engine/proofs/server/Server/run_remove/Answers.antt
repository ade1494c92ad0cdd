use Rattle.std.proofs.Common.{refl, sym, ◌∙◌}
use Rattle.coap_server_engine.specs.Prelude.{Remove, event_ran, events_made}
use Rattle.coap_server_engine.proofs.scripting.ReplayLemmas.{no_such_path, unrun}
use Rattle.coap_server_engine.proofs.scripting.ShownLemmas.{shows_same, nothing_made, run_refused}
use Rattle.coap_server_engine.proofs.server.Server.run_remove.Goals as goal
use Rattle.coap_conn.proofs.AskingLaws.{none_where}

-- The store cannot remove the resource.
pub returns-then-not-can_remove : goal.returns-then-not-can_remove
unfolding event_ran events_made
returns-then-not-can_remove c =
    rw (no_such_path _ _ (sym c.can_remove.ensures ∙ c.if-not-can_remove.true), ← c.store_number-number.ensures)
    (assumption (shows_same c.args.self.now _ refl))

pub returns-in_err-line : goal.returns-in_err-line
returns-in_err-line c =
    let event = Remove _ _ in
    record {
      run = unrun _ event _ _ c.from_residual.ensures.0 (
        none_where _ (sym c.can_remove.ensures ∙ c.if-not-can_remove.false),
        refl,
      );
      shows = run_refused _ _ _ _ c.from_residual.ensures.0 (nothing_made _ event _ refl refl);
    }

pub returns : goal.returns
unfolding event_ran events_made
returns c = rw c.in-Ok.ensures.answer (assumption (c.in-Ok.ensures, c.in_ok-line.ensures))
