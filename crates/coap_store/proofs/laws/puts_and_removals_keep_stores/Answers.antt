use Rattle.coap_store.proofs.RefusalLemmas.{put_keeps}
use Rattle.coap_store.proofs.laws.puts_and_removals_keep_stores.Goals as goal

pub returns-clause-put : goal.returns-clause-put
returns-clause-put c = put_keeps
