use Rattle.std.proofs.Common.{rules}
use Rattle.std.proofs.lemmas.Result.{err_from_is_err_and}
use Rattle.coap_server_engine.specs.Prelude.{session_released}
use Rattle.coap_server_engine.proofs.values.ServerLemmas.{settled_call, written_back, unmarked_at, one_of_all}
use Rattle.coap_server_engine.proofs.server.sessions.release_at.Goals as goal

pub returns-in_err-release : goal.returns-in_err-release
returns-in_err-release c = rw (
  (err_from_is_err_and c.from_residual.result c.from_residual.ensures.1).1,
  written_back _ _ _ _ c.index_mut-session.ensures.value c.in_err-release.ensures.err,
  unmarked_at _ _ _ c.index_mut-session.ensures.value,
) (search rules)

pub settle-requires : goal.settle-requires
settle-requires c =
    c.in_ok-release.ensures.marked _ (one_of_all _ _ _ _ c.requires.marked c.index_mut-session.ensures.value)

pub returns : goal.returns
returns c =
    let call = settled_call session_released c.settle.new.self c.requires.marked c.index_mut-session.ensures.value
    c.in_ok-release.ensures.after c.settle.ensures.after c.settle.ensures.marked in
    rw (unmarked_at c.args.sessions.now.entries c.args.at _ c.index_mut-session.ensures.value) (search (rules, call))
