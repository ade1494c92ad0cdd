use Rattle.coap_serve.specs.Prelude.{AddsBytes}
use Rattle.coap_serve.proofs.streams.FlushLemmas.{flushed_lies}
use Rattle.coap_serve.proofs.output.flush_once.Goals as goal

pub returns-clause-lies : goal.returns-clause-lies
returns-clause-lies g c = flushed_lies _ _ c.args.server.now _ (AddsBytes _ _) _ c.requires.at c.in_ok-waited.ensures.ok
