use Rattle.std.proofs.Common.{option_and_then, sym, ap, ◌∙◌}
use Rattle.coap_server_engine.specs.Prelude.{frame_message, handed_by}
use Rattle.coap_server_engine.proofs.values.ResponseLemmas.{answers_none}
use Rattle.coap_server_engine.proofs.values.RoomLemmas.{limit_within}
use Rattle.coap_server_engine.proofs.values.ServingLemmas.{asks_unanswered}
use Rattle.coap_server_engine.proofs.server.Server.take_and_ask.Goals as goal

-- The application answers none.
pub returns-then-not-answers-clause-requested : goal.returns-then-not-answers-clause-requested
returns-then-not-answers-clause-requested g c =
    rw c.requires.empty (c.answers.ensures.follows c.if-not-answers.true _
    (asks_unanswered _ _ (handed_by c.args.self.now c.args.index.id c.args.rest.now)))

-- There is no request.
pub returns-in_default-clause-requested : goal.returns-in_default-clause-requested
returns-in_default-clause-requested g c =
    let none = ap (option_and_then frame_message) (sym c.in_ok-taken.ensures.frame) ∙ sym c.in_default.ensures in
    rw none (answers_none (g.A.Application.follows c.args.application.now))

-- A request was handed over, so the server has applications.
pub request-requires-2-clause-room : goal.request-requires-2-clause-room
request-requires-2-clause-room g c =
    rw c.message_limit-limit.ensures.limit (limit_within _ _ _ _ c.message_limit-limit.ensures.applications
    (ap (option_and_then frame_message) (sym c.in_ok-taken.ensures.frame) ∙ sym c.in-Some.ensures) c.requires.room)
