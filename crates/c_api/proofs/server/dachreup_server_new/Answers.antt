use Rattle.c_api.proofs.ServerLemmas.{keeps_made}
use Rattle.c_api.proofs.server.dachreup_server_new.Goals as goal

pub returns-clause-output : goal.returns-clause-output
returns-clause-output c =
    keeps_made _ _ c.in-Ok-new-2.boxed.value c.put_back-2.ensures (rw c.in-Ok-new-2.ensures.ok c.new-2.ensures.output)
