use Rattle.c_api.proofs.ServerLemmas.{keeps_made}
use Rattle.c_api.proofs.applications.dachreup_server_new_for.Goals as goal

pub returns-clause-output : goal.returns-clause-output
returns-clause-output c =
    keeps_made _ _ c.in-Ok-new.boxed.value c.put_back-2.ensures (rw c.in-Ok-new.ensures.ok c.new.ensures.output)
