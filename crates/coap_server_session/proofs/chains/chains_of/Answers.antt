use Rattle.std.proofs.Common.{◌<◌, length, arith, ap}
use Rattle.std.proofs.lemmas.List.{length-map}
use Rattle.coap_server_session.specs.Prelude.{observer_value}
use Rattle.coap_server_session.proofs.values.ChainLemmas.{one_more_chained}
use Rattle.coap_server_session.proofs.chains.chains_of.Goals as goal

pub loop-index-preserved : goal.loop-index-preserved
loop-index-preserved c =
    let so_far = c.loop-index.invariant.0 in
    let items = c.loop-index.observers.items in
    let within : c.loop-index.index < length items = omega (
      arith,
      length-map items observer_value,
      ap length so_far.entries,
      length-map c.args.observers.now.items observer_value,
    ) in
    let e = c.link.ensures in (
      one_more_chained so_far within c.index_mut.ensures.value e.value e.mark e.tagged e.previous e.last,
      c.loop-index.invariant.1,
    )
