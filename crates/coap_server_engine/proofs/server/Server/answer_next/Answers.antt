use Rattle.std.proofs.Common.{refl}
use Rattle.coap_server_engine.proofs.values.ResponseLemmas.{answers_then}
use Rattle.coap_server_engine.proofs.scripting.FollowLemmas.{followed_none}
use Rattle.coap_server_engine.proofs.server.Server.answer_next.Goals as goal

-- The application has no response now.
pub returns-in_err-id-clause-requested : goal.returns-in_err-id-clause-requested
returns-in_err-id-clause-requested g c =
    rw c.from_residual.ensures (refl, (followed_none _, c.in_err-id.ensures.offered))

pub returns-in_err-id-clause-none : goal.returns-in_err-id-clause-none
returns-in_err-id-clause-none g c = rw c.from_residual.ensures c.in_err-id.ensures.none

pub returns-clause-requested : goal.returns-clause-requested
returns-clause-requested g c =
    let e = c.offer-outcome.ensures in
    record {
      bytes = c.deref.result.now;
      outcome = c.offer-outcome.result;
      refused = e.answer;
      reply = e.reply;
      server = e.after;
      shows = e.shows;
      reports = e.reported;
      exchanged =
          rw c.deref.ensures.value (answers_then _
          (g.A.Application.follows c.next_response.new.self) _ _ _
          c.in_ok-id.ensures.offered c.responded.ensures);
    }
