use Rattle.coap_serve.specs.Prelude.{AddsBytes}
use Rattle.coap_serve.proofs.streams.CallLemmas.{flush_empties}
use Rattle.coap_serve.proofs.streams.RunLemmas.{run_leaves_nothing}
use Rattle.coap_serve.proofs.laws.a_flush_leaves_nothing_waiting.Goals as goal

pub returns : goal.returns
returns c = record {
  flush = λ v after events id before now. flush_empties v after events id (AddsBytes before now);
  run = run_leaves_nothing;
}
