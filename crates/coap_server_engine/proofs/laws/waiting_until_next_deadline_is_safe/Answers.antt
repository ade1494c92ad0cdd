use Rattle.coap_server_engine.proofs.values.WorkLemmas.{waits_for_what_is_due}
use Rattle.coap_server_engine.proofs.laws.waiting_until_next_deadline_is_safe.Goals as goal

pub returns : goal.returns
returns c = waits_for_what_is_due
