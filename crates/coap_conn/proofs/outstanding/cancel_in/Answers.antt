use Rattle.std.proofs.Common.{◌<◌, length, map, arith}
use Rattle.std.proofs.lemmas.List.{length-map, length-set}
use Rattle.coap_conn.specs.Prelude.{outstanding_value}
use Rattle.coap_conn.proofs.OutstandingLemmas.{cancelled_more}
use Rattle.coap_conn.proofs.outstanding.cancel_in.Goals as goal

pub loop-index-preserved : goal.loop-index-preserved
loop-index-preserved c =
    let within : c.loop-index.index < length c.loop-index.entries.items =
    omega (arith, c.loop-index-test.true, c.len-index-end.ensures, c.loop-index.invariant.1) in (
      cancelled_more c.args.token.now (map outstanding_value c.args.entries.now.items) c.loop-index.entries.items
          c.loop-index.index c.index_mut.result.now c.cancel.new.self
          within (omega (arith, c.loop-index.invariant.1, length-map c.args.entries.now.items outstanding_value))
          c.loop-index.invariant.0 c.index_mut.ensures.value c.cancel.ensures,
      omega (
        arith,
        c.loop-index.invariant.1,
        length-set c.loop-index.entries.items c.loop-index.index c.cancel.new.self,
      ),
      c.loop-index.invariant.2,
    )
