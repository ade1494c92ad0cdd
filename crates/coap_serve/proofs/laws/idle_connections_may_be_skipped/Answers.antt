use Rattle.coap_serve.proofs.listener.PassedLemmas.{passed_over}
use Rattle.coap_serve.proofs.laws.idle_connections_may_be_skipped.Goals as goal

pub returns : goal.returns
returns c = passed_over
