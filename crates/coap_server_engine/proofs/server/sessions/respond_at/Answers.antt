use Rattle.std.proofs.Common.{rules}
use Rattle.std.proofs.lemmas.Result.{err_from_is_err_and}
use Rattle.coap_server_engine.specs.Prelude.{session_given_by, message_of}
use Rattle.coap_server_engine.proofs.values.ServerLemmas.{settled_call, written_back, unmarked_at, one_of_all}
use Rattle.coap_server_engine.proofs.world.ShowLaws.{given_is}
use Rattle.coap_server_engine.proofs.server.sessions.respond_at.Goals as goal

pub returns-in_err-reply : goal.returns-in_err-reply
returns-in_err-reply c = rw (
  (err_from_is_err_and c.from_residual.result c.from_residual.ensures.1).1,
  written_back _ _ _ _ c.index_mut-session.ensures.value c.in_err-reply.ensures.err,
  unmarked_at c.args.sessions.now.entries c.args.at _ c.index_mut-session.ensures.value,
) (search rules)

pub settle-requires : goal.settle-requires
settle-requires c =
    c.in_ok-reply.ensures.marked _ (one_of_all _ _ _ _ c.requires.marked c.index_mut-session.ensures.value)

pub returns : goal.returns
returns c =
    let call = settled_call (session_given_by (message_of c.args.response.now)) c.settle.new.self c.requires.marked
    c.index_mut-session.ensures.value
    (given_is _ _ _ c.in_ok-reply.ensures.answer c.in_ok-reply.ensures.after) c.settle.ensures.after
    c.settle.ensures.marked in
    rw (unmarked_at c.args.sessions.now.entries c.args.at _ c.index_mut-session.ensures.value) (search (rules, call))
