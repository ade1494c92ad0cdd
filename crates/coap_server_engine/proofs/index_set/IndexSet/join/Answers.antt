use Rattle.coap_server_engine.proofs.values.IndexSetLemmas.{joined_outside, outside_joined}
use Rattle.coap_server_engine.proofs.index_set.IndexSet.join.Goals as goal

pub returns : goal.returns
returns c = record {
  outside = joined_outside _ c.args.other.now.words;
  only = outside_joined _ c.args.other.now.words;
}
