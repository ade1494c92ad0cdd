use Rattle.std.proofs.Common.{◌≡◌, Ok, rules, None, ap, ◌∙◌}
use Rattle.coap_server_engine.specs.Prelude.{message_of, server_value, responded_refusal, responded_refusal_on}
use Rattle.coap_server_engine.proofs.values.ConcernedLemmas.{called, given_by_adds}
use Rattle.coap_server_engine.proofs.values.ResponseLemmas.{refused_events, server_if_accepted, accepted_events}
use Rattle.coap_server_engine.proofs.world.ShowLaws.{respond_shows}
use Rattle.coap_server_engine.proofs.scripting.FollowLemmas.{followed_none}
use Rattle.coap_model.specs.declared.answers.ResponseFault.TheVariants.{NoSuch}
use Rattle.coap_server_engine.proofs.server.Server.offer.Goals as goal

-- No connection has this id.
pub returns-in_default-clause-reported : goal.returns-in_default-clause-reported
returns-in_default-clause-reported g c =
    rw (refused_events c.args.self.now c.args.id c.args.response.now NoSuch (search rules))
    (followed_none (g.M.Monitor.follows c.args.monitor.now))

-- The link does not accept the response.
pub returns-in_err-reply-clause-reported : goal.returns-in_err-reply-clause-reported
returns-in_err-reply-clause-reported g c =
    let bytes = c.args.response.now in
    let lies = rw (← c.self.view_is) at (rw c.in-Some.is at c.requires.lies) in
    let refused = ap (responded_refusal_on bytes) lies.found ∙ c.in_err-reply.ensures.answer in
    rw (← c.self.view_is, refused_events (server_value c.self.inside) c.args.id bytes _ refused)
    (followed_none (g.M.Monitor.follows c.args.monitor.now))

-- The call of the monitor: the server was the one before.
pub accepted-requires : goal.accepted-requires
accepted-requires g c =
    let lies = rw (← c.self.view_is) at (rw c.in-Some.is at c.requires.lies) in (
      server_value c.self.inside,
      (called _ (given_by_adds (message_of c.args.response.now)) c.self.invariant lies
          c.in_ok-reply.ensures.ok).value,
    )

pub invariant_of-self-2 : goal.invariant_of-self-2
invariant_of-self-2 g c =
    let lies = rw (← c.self.view_is) at (rw c.in-Some.is at c.requires.lies) in
    assumption (
      called _ (given_by_adds (message_of c.args.response.now)) c.self.invariant lies
          c.in_ok-reply.ensures.ok,
      c.in_ok-reply.ensures,
    )

pub returns-clause-ok : goal.returns-clause-ok
returns-clause-ok g c =
    let lies = rw (← c.self.view_is) at (rw c.in-Some.is at c.requires.lies) in
    rw (← c.self.view_is) (called _ (given_by_adds (message_of c.args.response.now)) c.self.invariant lies
    c.in_ok-reply.ensures.ok).value

pub returns-clause-after : goal.returns-clause-after
returns-clause-after g c =
    let v = server_value c.self.inside in
    let bytes = c.args.response.now in
    let lies = rw (← c.self.view_is) at (rw c.in-Some.is at c.requires.lies) in
    let none : responded_refusal v c.args.id bytes ≡ None = rw lies.found c.in_ok-reply.ensures.answer in
    rw (← c.self.view_is, server_if_accepted v c.args.id bytes none)
    (called _ (given_by_adds (message_of c.args.response.now)) c.self.invariant lies c.in_ok-reply.ensures.ok).value

pub returns-clause-shows : goal.returns-clause-shows
returns-clause-shows g c =
    let v = server_value c.self.inside in
    let bytes = c.args.response.now in
    let lies = rw (← c.self.view_is) at (rw c.in-Some.is at c.requires.lies) in
    let none : responded_refusal v c.args.id bytes ≡ None = rw lies.found c.in_ok-reply.ensures.answer in
    rw (← c.self.view_is, accepted_events v c.args.id bytes none)
    (respond_shows v _ c.args.id (Ok c.in_ok-reply.reply) bytes none
    (called _ (given_by_adds (message_of c.args.response.now)) c.self.invariant lies c.in_ok-reply.ensures.ok).value)
