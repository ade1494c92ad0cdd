use Rattle.c_api.proofs.ServerLemmas.{written_ok}
use Rattle.c_api.proofs.server.dachreup_server_written.Goals as goal

pub returns-in-Ok-clause-call : goal.returns-in-Ok-clause-call
returns-in-Ok-clause-call c =
    written_ok c.args.id c.args.count _ _ c.in-Some.server.value c.deref_mut.result.now c.written-answer.new.self
    c.in-Some.ensures.value c.deref_mut.ensures.value c.put_back.ensures
    c.in-Ok.ensures.answer c.in-Ok.ensures.ok c.in-Ok.ensures.shows
